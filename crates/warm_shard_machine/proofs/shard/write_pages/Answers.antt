use Rattle.std.proofs.Common.{length, ap, ◌∙◌, subst}
use Rattle.std.proofs.lemmas.Result.{err_from_is_err_and}
use Rattle.std.proofs.lemmas.List.{length-map}
use Rattle.warm_pool.specs.State.{PoolState}
use Rattle.warm_pool.specs.View.{frame_view, view_of}
use Rattle.warm_pool.specs.WritingSome.{CleansFirst, SomeFails}
use Rattle.warm_gossip.proofs.EngineLemmas.{same_view, some_fails}
use Rattle.warm_shard_machine.proofs.shard.write_pages.Goals as goal

pub returns-in_err-write_back_some : goal.returns-in_err-write_back_some
returns-in_err-write_back_some g c =
    let s = c.args.node.now.pool in
    let limit = c.frames-frames.ensures ∙ ap (λ (p : PoolState). length (view_of p).frames) c.pool.ensures ∙ length-map s.frames frame_view in
    let given = err_from_is_err_and c.from_residual.result c.from_residual.ensures.1 in
    let asked = c.in_err-write_back_some.ensures.asked in
    let fails = some_fails c.frames-frames.result c.args.node.now c.write_back_some.new.self c.in_err-write_back_some.field-0.0 asked.known asked.refused in
    rw (given.1, given.2) (fails.0, subst (λ n. SomeFails n s c.write_back_some.new.self.pool) limit fails.1)

pub returns : goal.returns
returns g c =
    let s = c.args.node.now.pool in
    let limit = c.frames-frames.ensures ∙ ap (λ (p : PoolState). length (view_of p).frames) c.pool.ensures ∙ length-map s.frames frame_view in
    let asked = c.in_ok-write_back_some.ensures.asked in (
      same_view _ _ asked.known asked.done.same,
      subst (λ n. CleansFirst n s c.write_back_some.new.self.pool) limit asked.done.written.0,
    )

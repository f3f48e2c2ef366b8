use Rattle.std.proofs.Common.{length, ap, ◌∙◌, subst}
use Rattle.std.proofs.lemmas.List.{length-map}
use Rattle.warm_pool.specs.State.{PoolState}
use Rattle.warm_pool.specs.View.{frame_view, view_of}
use Rattle.warm_pool.specs.WritingSome.{SomeFails}
use Rattle.warm_pool.proofs.FlushLemmas.{handed_on}
use Rattle.warm_gossip.proofs.EngineLemmas.{same_view, some_fails}
use Rattle.warm_shards.proofs.EachShardLemmas.{all_written}
use Rattle.warm_shards.proofs.each_shard.write_one.Goals as goal

pub returns-clause-written : goal.returns-clause-written
returns-clause-written g c =
    let s = c.args.node.now.pool in
    let limit = c.frames-frames.ensures ∙ ap (λ (p : PoolState). length (view_of p).frames) c.pool.ensures ∙ length-map s.frames frame_view in
    let asked = c.in_ok-write_back_some.ensures.asked in
    (same_view _ _ asked.known asked.done.same, all_written c.frames-frames.result s c.write_back_some.new.self.pool limit asked.done.written.0, asked.done.unflushed)

pub returns-in_err-write_back_some-clause-refused : goal.returns-in_err-write_back_some-clause-refused
returns-in_err-write_back_some-clause-refused g c =
    let s = c.args.node.now.pool in
    let limit = c.frames-frames.ensures ∙ ap (λ (p : PoolState). length (view_of p).frames) c.pool.ensures ∙ length-map s.frames frame_view in
    let asked = c.in_err-write_back_some.ensures.asked in
    let fails = some_fails c.frames-frames.result c.args.node.now c.write_back_some.new.self c.in_err-write_back_some.field-0.0 asked.known asked.refused in
    handed_on c.from_residual.result c.in_err-write_back_some.field-0.0 _ c.from_residual.ensures.1
    (fails.0.0, (asked.known, subst (λ n. SomeFails n s c.write_back_some.new.self.pool) limit fails.1))

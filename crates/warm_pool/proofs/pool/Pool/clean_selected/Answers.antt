use Rattle.std.proofs.Common.{length, ap, ◌∙◌, arith}
use Rattle.warm_pool.proofs.FlushLemmas.{on_err}
use Rattle.warm_pool.proofs.ClosingLemmas.{down_more, one_stops}
use Rattle.warm_pool.proofs.SettleLemmas.{down_view}
use Rattle.warm_pool.proofs.pool.Pool.clean_selected.Goals as goal

pub loop-at-preserved : goal.loop-at-preserved
loop-at-preserved g c =
    let seen = ap (λ s. length s.frames) c.self.view_is in (
      down_more c.args.which c.loop-at.at _ _ _ (omega (arith, seen)) c.loop-at.invariant.0 c.in_ok-clean_if.ensures.down,
      λ k out. c.in_ok-clean_if.ensures.others k out ∙ c.loop-at.invariant.1 k out,
      λ k. c.in_ok-clean_if.ensures.unflushed k ∙ c.loop-at.invariant.2 k,
    )

pub returns-in_err-clean_if-clause-others : goal.returns-in_err-clean_if-clause-others
returns-in_err-clean_if-clause-others g c = λ k out. c.in_err-clean_if.ensures.others k out ∙ c.loop-at.invariant.1 k out

pub returns-in_err-clean_if-clause-stopped : goal.returns-in_err-clean_if-clause-stopped
returns-in_err-clean_if-clause-stopped g c =
    let seen = ap (λ s. length s.frames) c.self.view_is in
    let failed = c.in_err-clean_if.ensures.failed in
    let down = c.loop-at.invariant.0 in
    on_err _ _ (one_stops c.args.which c.loop-at.at _ _ _ (omega (arith, seen)) down (down_view c.args.which c.loop-at.at _ _ down) failed.0 failed.1)

pub returns-in_err-clean_if-clause-unflushed : goal.returns-in_err-clean_if-clause-unflushed
returns-in_err-clean_if-clause-unflushed g c = λ k. c.in_err-clean_if.ensures.unflushed k ∙ c.loop-at.invariant.2 k

use Rattle.std.proofs.Common.{length, ap, arith}
use Rattle.warm_pool.proofs.RefreshingLemmas.{none_first, next_first, all_first}
use Rattle.warm_pool.proofs.pool.Pool.refresh_all.Goals as goal

pub loop-at-init : goal.loop-at-init
loop-at-init g c = none_first _ _

pub update_rank_in-requires : goal.update_rank_in-requires
update_rank_in-requires g c =
    let seen = ap (λ s. length s.frames) c.self.view_is in
    omega (arith, seen, c.loop-at-test.true, c.loop-at.invariant.count, c.len-at-end.ensures)

pub loop-at-preserved : goal.loop-at-preserved
loop-at-preserved g c = next_first _ _ c.loop-at.invariant c.update_rank_in.ensures.same c.update_rank_in.ensures.kept c.update_rank_in.ensures.keys

pub returns : goal.returns
returns g c =
    let seen = ap (λ s. length s.frames) c.self.view_is in record {
      ranked = all_first _ _ c.loop-at.invariant (omega (arith, seen, c.loop-at-test.false, c.loop-at.invariant.count, c.len-at-end.ensures));
      same = c.loop-at.invariant.same;
      kept = c.loop-at.invariant.kept;
    }

use Rattle.warm_pool.proofs.RefreshingLemmas.{none_renewed, named_renewed, all_named, each_named}
use Rattle.warm_pool.proofs.pool.Pool.refresh.Goals as goal

pub loop-item-init : goal.loop-item-init
loop-item-init g c = none_renewed _ _ _

pub loop-item-preserved : goal.loop-item-preserved
loop-item-preserved g c =
    named_renewed _ g.T.NamesPage.named _ _ _ c.loop-item.invariant c.loop-item-test.true c.item-item.is c.named.ensures c.update_rank.ensures.same c.update_rank.ensures.kept c.update_rank.ensures.keys

pub returns : goal.returns
returns g c = record {
  ranked = λ history ranked agree. all_named _ g.T.NamesPage.named _ _ c.loop-item.invariant c.loop-item-test.false history ranked agree;
  renewed = λ i p holds named. each_named _ g.T.NamesPage.named _ _ c.loop-item.invariant c.loop-item-test.false i p holds named;
  others = record { pages = c.loop-item.invariant.held; keys = c.loop-item.invariant.others };
  same = c.loop-item.invariant.same;
  kept = c.loop-item.invariant.kept;
}

use Rattle.std.proofs.Common.{◌<◌, [], length, subst, arith}
use Rattle.warm_history.specs.Histories.{HistoryView, IsHistory}
use Rattle.warm_pool.specs.View.{view_of}
use Rattle.warm_gossip.specs.WarmingUp.{IsListed, IsWarming}
use Rattle.warm_gossip.proofs.PassedLemmas.{listed_at}
use Rattle.warm_gossip.proofs.NextWarmLemmas.{none_to_load, page_to_load}
use Rattle.warm_gossip.proofs.node.Node.warm_next.Goals as goal

pub returns-then-at-len-clause-next : goal.returns-then-at-len-clause-next
returns-then-at-len-clause-next g c =
    let h = c.self.inside.peer.history in
    let whole = subst IsHistory c.history-history.ensures c.prove_is_history.ensures in
    rw (← c.self.view_is) (none_to_load (view_of c.self.inside.pool) h _ c.in_ok-list.list c.first_loadable-at.result _ whole c.history-history.ensures c.in_ok-list.ensures.listed c.first_loadable-at.ensures.past (omega (arith, c.len.ensures, c.if-at-len.true)))

pub returns-clause-next : goal.returns-clause-next
returns-clause-next g c =
    let h = c.self.inside.peer.history in
    let whole = subst IsHistory c.history-history.ensures c.prove_is_history.ensures in
    let there : c.first_loadable-at.result < length c.in_ok-list.list = omega (arith, c.len.ensures, c.if-at-len.false) in
    let page = page_to_load (view_of c.self.inside.pool) h _ c.in_ok-list.list c.first_loadable-at.result _ c.page-next.result whole c.history-history.ensures c.in_ok-list.ensures.listed c.first_loadable-at.ensures.past c.first_loadable-at.ensures.there there c.page-next.ensures in
    rw (← c.self.view_is) page.0

-- no list was to be had
pub invariant_of-self : goal.invariant_of-self
invariant_of-self g c = (
  c.self.invariant.0,
  subst (λ (x : HistoryView). IsWarming x (view_of c.self.inside.pool) c.take_list.new.warm_up) c.history-history.ensures c.in_err-list.ensures.kept,
)

-- no page of the list could be loaded
pub invariant_of-self-then-at-len : goal.invariant_of-self-then-at-len
invariant_of-self-then-at-len g c =
    let v = view_of c.self.inside.pool in
    let keys = c.in_ok-list.list in
    let listed = subst (λ (x : HistoryView). IsListed x v [] keys c.take_list.new.warm_up.passed) c.history-history.ensures c.in_ok-list.ensures.listed in (
      c.self.invariant.0,
      listed_at c.self.inside.peer.history v _ keys _ c.first_loadable-at.result listed c.in_ok-list.ensures.current c.first_loadable-at.ensures.past,
    )

-- one could, and is not loaded
pub invariant_of-self-2 : goal.invariant_of-self-2
invariant_of-self-2 g c =
    let v = view_of c.self.inside.pool in
    let keys = c.in_ok-list.list in
    let listed = subst (λ (x : HistoryView). IsListed x v [] keys c.take_list.new.warm_up.passed) c.history-history.ensures c.in_ok-list.ensures.listed in (
      c.self.invariant.0,
      listed_at c.self.inside.peer.history v _ keys _ c.first_loadable-at.result listed c.in_ok-list.ensures.current c.first_loadable-at.ensures.past,
    )

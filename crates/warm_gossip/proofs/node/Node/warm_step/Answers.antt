use Rattle.std.proofs.Common.{◌≡◌, ◌<◌, [], length, map, Some, refl, sym, ap, subst, arith}
use Rattle.std.proofs.lemmas.Result.{err_from_is_err_and}
use Rattle.warm_history.specs.Histories.{HistoryView, IsHistory}
use Rattle.warm_pool.specs.View.{view_of}
use Rattle.warm_pool.specs.Pinning.{PutsIn}
use Rattle.warm_rank.specs.Keys.{ranked_page}
use Rattle.warm_gossip.specs.Step.{IsLoadable, nth_page}
use Rattle.warm_gossip.specs.declared.warm_step.WarmUp.{WarmUp}
use Rattle.warm_gossip.specs.WarmingUp.{IsListed, IsWarming, PassedAtLoad}
use Rattle.warm_gossip.proofs.PassedLemmas.{listed_at, loaded}
use Rattle.warm_gossip.proofs.WarmingLemmas.{warms_on}
use Rattle.warm_gossip.proofs.NextWarmLemmas.{loaded_in, load_refused_in, none_to_load, page_to_load}
use Rattle.warm_gossip.proofs.node.Node.warm_step.Goals as goal

pub returns-then-at-len-clause-step : goal.returns-then-at-len-clause-step
returns-then-at-len-clause-step g c =
    let h = c.self.inside.peer.history in
    let whole = subst IsHistory c.history-history.ensures c.prove_is_history.ensures in
    rw (← c.self.view_is) (none_to_load (view_of c.self.inside.pool) h _ c.in_ok-list.list c.first_loadable-at.result _ whole c.history-history.ensures c.in_ok-list.ensures.listed c.first_loadable-at.ensures.past (omega (arith, c.len.ensures, c.if-at-len.true)), refl)

pub returns-in_err-placed-clause-step : goal.returns-in_err-placed-clause-step
returns-in_err-placed-clause-step g c =
    let given = err_from_is_err_and c.from_residual-in_err-placed.result c.from_residual-in_err-placed.ensures.1 in
    let h = c.self.inside.peer.history in
    let whole = subst IsHistory c.history-history.ensures c.prove_is_history.ensures in
    let there : c.first_loadable-at.result < length c.in_ok-list.list = omega (arith, c.len.ensures, c.if-at-len.false) in
    let page = page_to_load (view_of c.self.inside.pool) h _ c.in_ok-list.list c.first_loadable-at.result _ c.page-page.result whole c.history-history.ensures c.in_ok-list.ensures.listed c.first_loadable-at.ensures.past c.first_loadable-at.ensures.there there c.page-page.ensures in
    rw (given.1, given.2, ← c.self.view_is) (
      c.page-page.result,
      page.0,
      (refl, load_refused_in _ _ c.in_err-placed.field-0.0 page.1 (rw c.history.ensures at c.in_err-placed.ensures.refused.cause)),
    )

pub returns-in_err-placed-clause-devices : goal.returns-in_err-placed-clause-devices
returns-in_err-placed-clause-devices g c =
    let given = err_from_is_err_and c.from_residual-in_err-placed.result c.from_residual-in_err-placed.ensures.1 in
    let h = c.self.inside.peer.history in
    let whole = subst IsHistory c.history-history.ensures c.prove_is_history.ensures in
    let there : c.first_loadable-at.result < length c.in_ok-list.list = omega (arith, c.len.ensures, c.if-at-len.false) in
    let page = page_to_load (view_of c.self.inside.pool) h _ c.in_ok-list.list c.first_loadable-at.result _ c.page-page.result whole c.history-history.ensures c.in_ok-list.ensures.listed c.first_loadable-at.ensures.past c.first_loadable-at.ensures.there there c.page-page.ensures in
    rw (given.1, given.2, ← c.self.view_is) (
      c.page-page.result,
      page.0,
      (c.in_err-placed.ensures.refused.frames, rw c.history.ensures at c.in_err-placed.ensures.refused.devices),
    )

pub returns-clause-step : goal.returns-clause-step
returns-clause-step g c =
    let h = c.self.inside.peer.history in
    let whole = subst IsHistory c.history-history.ensures c.prove_is_history.ensures in
    let there : c.first_loadable-at.result < length c.in_ok-list.list = omega (arith, c.len.ensures, c.if-at-len.false) in
    let page = page_to_load (view_of c.self.inside.pool) h _ c.in_ok-list.list c.first_loadable-at.result _ c.page-page.result whole c.history-history.ensures c.in_ok-list.ensures.listed c.first_loadable-at.ensures.past c.first_loadable-at.ensures.there there c.page-page.ensures in
    rw (← c.self.view_is) (
      page.0,
      (refl, (_, loaded_in page.1 (rw c.history.ensures at c.in_ok-placed.ensures.done.load.loaded))),
    )

pub returns-clause-devices : goal.returns-clause-devices
returns-clause-devices g c = rw (← c.self.view_is) (c.in_ok-placed.placed.slot, c.in_ok-placed.ensures.done.load.frame)

pub invariant_of-self-2 : goal.invariant_of-self-2
invariant_of-self-2 g c =
    let h = c.self.inside.peer.history in
    let v = view_of c.self.inside.pool in
    let w = view_of c.load_placed.new.self in
    let at = c.first_loadable-at.result in
    let keys = c.in_ok-list.list in
    let there : at < length keys = omega (arith, c.len.ensures, c.if-at-len.false) in
    let page_is : nth_page (map ranked_page keys) at ≡ c.page-page.result = sym c.page-page.ensures in
    let whole = subst IsHistory c.history-history.ensures c.prove_is_history.ensures in
    let listed = subst (λ (x : HistoryView). IsListed x v [] keys c.take_list.new.warm_up.passed) c.history-history.ensures c.in_ok-list.ensures.listed in
    let loadable = c.first_loadable-at.ensures.there there in
    let puts = subst (λ p. PutsIn h v p 0 c.in_ok-placed.placed.slot w) (sym page_is) (loaded_in (subst (IsLoadable v) page_is loadable) (rw c.history.ensures at c.in_ok-placed.ensures.done.load.loaded)) in
    let moves = subst (λ p. PassedAtLoad h p c.in_ok-placed.placed.evicted at c.passed_at_load-self-inside.result) (sym page_is) (rw c.history-2.ensures at c.passed_at_load-self-inside.ensures) in
    let under = listed_at h v [] keys _ at listed refl c.first_loadable-at.ensures.past in (
      rw c.history.ensures at c.load_placed.ensures.ranked,
      rw c.in_ok-list.ensures.current (loaded h v w keys c.in_ok-placed.placed.slot c.in_ok-placed.placed.evicted at c.passed_at_load-self-inside.result whole there under puts
          (c.in_ok-placed.ensures.done.evicted.absent (subst (IsLoadable v) page_is loadable).1) moves),
    )

-- no page of the list could be loaded
pub invariant_of-self-then-at-len : goal.invariant_of-self-then-at-len
invariant_of-self-then-at-len g c =
    let v = view_of c.self.inside.pool in
    let keys = c.in_ok-list.list in
    let listed = subst (λ (x : HistoryView). IsListed x v [] keys c.take_list.new.warm_up.passed) c.history-history.ensures c.in_ok-list.ensures.listed in (
      c.self.invariant.0,
      listed_at c.self.inside.peer.history v _ keys _ c.first_loadable-at.result listed c.in_ok-list.ensures.current c.first_loadable-at.ensures.past,
    )

-- no list was to be had
pub invariant_of-self : goal.invariant_of-self
invariant_of-self g c = (
  c.self.invariant.0,
  subst (λ (x : HistoryView). IsWarming x (view_of c.self.inside.pool) c.take_list.new.warm_up) c.history-history.ensures c.in_err-list.ensures.kept,
)

-- the load is refused, and the passed pages stay passed
pub invariant_of-self-in_err-placed : goal.invariant_of-self-in_err-placed
invariant_of-self-in_err-placed g c =
    let h = c.self.inside.peer.history in
    let v = view_of c.self.inside.pool in
    let w = view_of c.load_placed.new.self in
    let at = c.first_loadable-at.result in
    let keys = c.in_ok-list.list in
    let x : WarmUp = record { list = Some keys; changed = c.take_list.new.warm_up.changed; passed = at } in
    let stays = c.in_err-placed.ensures.refused.stays in
    let listed = subst (λ (y : HistoryView). IsListed y v [] keys c.take_list.new.warm_up.passed) c.history-history.ensures c.in_ok-list.ensures.listed in
    let under = listed_at h v _ keys _ at listed c.in_ok-list.ensures.current c.first_loadable-at.ensures.past in (
      rw c.history.ensures at c.load_placed.ensures.ranked,
      warms_on h v w x (ap (λ y. y.devices) stays) (ap (λ y. y.frames) stays) under,
    )

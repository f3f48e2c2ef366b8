use Rattle.std.proofs.Common.{refl, sym, subst, arith}
use Rattle.std.proofs.lemmas.List.{length-map}
use Rattle.warm_frame_table.specs.declared.selection.Devices.TheVariants.{All}
use Rattle.warm_pool.proofs.FlushLemmas.{on_err}
use Rattle.warm_pool.proofs.SettleLemmas.{ranked_to, seen_down, flush_down, flushed_alike, flushed_failures, flushed_quiet, stopped_alike, flush_stops_at, alike_kept}
use Rattle.warm_pool.proofs.PoolLemmas.{devices_keep_pool}
use Rattle.warm_pool.specs.State.{PoolState}
use Rattle.warm_pool.specs.Calls.{FlushesNone}
use Rattle.warm_pool.proofs.CallLemmas.{stopped_once, all_once}
use Rattle.warm_pool.proofs.pool.Pool.settle.Goals as goal

pub returns-in_err-clean_selected-clause-ranked : goal.returns-in_err-clean_selected-clause-ranked
returns-in_err-clean_selected-clause-ranked g c = λ h ranked. let stopped = c.in_err-clean_selected.ensures.stopped in ranked_to All stopped.frame _ _ h stopped.frames ranked

pub invariant_of-self : goal.invariant_of-self
invariant_of-self g c = devices_keep_pool _ _ (alike_kept _ _ _ (stopped_alike _ _ c.in_err-flush_all.ensures.stopped)) c.self.invariant

pub returns-in_err-flush_all-clause-stopped : goal.returns-in_err-flush_all-clause-stopped
returns-in_err-flush_all-clause-stopped g c =
    on_err _ _ (flush_stops_at _ _ _ c.in_err-flush_all.ensures.stopped (seen_down c.self.view_is c.in_ok-clean_selected.ensures.down) refl (refl, refl))

pub returns-in_err-flush_all-clause-ranked : goal.returns-in_err-flush_all-clause-ranked
returns-in_err-flush_all-clause-ranked g c = λ h ranked. ranked_to All _ _ _ h (seen_down c.self.view_is c.in_ok-clean_selected.ensures.down).becomes ranked

pub invariant_of-self-2 : goal.invariant_of-self-2
invariant_of-self-2 g c = devices_keep_pool _ _ (alike_kept _ _ _ (flushed_alike _ _ _ c.in_ok-flush_all.ensures.flushed)) c.self.invariant

pub returns-clause-down : goal.returns-clause-down
returns-clause-down g c =
    let flushed = c.in_ok-flush_all.ensures.flushed in
    flush_down All _ _ _ _ (seen_down c.self.view_is c.in_ok-clean_selected.ensures.down) refl (refl, refl) (flushed_alike _ _ _ flushed) (flushed_failures _ _ _ flushed)

pub returns-clause-flushed : goal.returns-clause-flushed
returns-clause-flushed g c = flushed_quiet _ _ _ (rw length-map (omega arith)) c.in_ok-flush_all.ensures.flushed

pub returns-clause-ranked : goal.returns-clause-ranked
returns-clause-ranked g c = λ h ranked. ranked_to All _ _ _ h (seen_down c.self.view_is c.in_ok-clean_selected.ensures.down).becomes ranked

pub returns-in_err-clean_selected-clause-once : goal.returns-in_err-clean_selected-clause-once
returns-in_err-clean_selected-clause-once g c = λ k. let same = c.in_err-clean_selected.ensures.unflushed k in omega (arith, same)

pub returns-in_err-flush_all-clause-once : goal.returns-in_err-flush_all-clause-once
returns-in_err-flush_all-clause-once g c = stopped_once c.args.self.now.devices _ _ (subst (λ (s : PoolState). FlushesNone c.args.self.now.devices s.devices) (sym c.self.view_is) c.in_ok-clean_selected.ensures.unflushed) c.in_err-flush_all.ensures.stopped

pub returns-clause-once : goal.returns-clause-once
returns-clause-once g c = all_once c.args.self.now.devices _ _ (subst (λ (s : PoolState). FlushesNone c.args.self.now.devices s.devices) (sym c.self.view_is) c.in_ok-clean_selected.ensures.unflushed) _ c.in_ok-flush_all.ensures.flushed

use Rattle.std.proofs.Common.{refl, sym, subst, ap, ◌∙◌, inl, inr, arith}
use Rattle.warm_frame_table.specs.declared.selection.Devices.TheVariants.{One}
use Rattle.warm_pool.specs.State.{PoolState, nth_device}
use Rattle.warm_pool.specs.Calls.{FlushesNone}
use Rattle.warm_pool.proofs.FlushLemmas.{on_err}
use Rattle.warm_pool.proofs.PoolLemmas.{devices_keep_pool}
use Rattle.warm_pool.proofs.OtherDeviceLemmas.{off_device, flushed_others}
use Rattle.warm_pool.proofs.SettleLemmas.{ranked_to, seen_down}
use Rattle.warm_pool.proofs.HandingBackLemmas.{stops_at_flush}
use Rattle.warm_pool.proofs.RetireLemmas.{down_there, flush_one_down, flush_one_fails, one_kept, elsewhere_cleaned}
use Rattle.warm_pool.proofs.CallLemmas.{device_once}
use Rattle.warm_pool.proofs.pool.Pool.settle_device.Goals as goal

pub returns-in_err-clean_selected-clause-ranked : goal.returns-in_err-clean_selected-clause-ranked
returns-in_err-clean_selected-clause-ranked g c = λ h ranked. let stopped = c.in_err-clean_selected.ensures.stopped in ranked_to (One c.args.dev) stopped.frame _ _ h stopped.frames ranked

pub invariant_of-self : goal.invariant_of-self
invariant_of-self g c =
    let call = c.in_err-flush_device.ensures in
    devices_keep_pool _ _ (one_kept _ _ _ c.args.dev call.after (down_there (seen_down c.self.view_is c.in_ok-clean_selected.ensures.down) c.requires.there) call.becomes call.failed.shape call.failed.contents) c.self.invariant

pub returns-in_err-flush_device-clause-stopped : goal.returns-in_err-flush_device-clause-stopped
returns-in_err-flush_device-clause-stopped g c =
    let call = c.in_err-flush_device.ensures in
    on_err _ _ (flush_one_fails (One c.args.dev) _ _ _ _ c.args.dev call.after (seen_down c.self.view_is c.in_ok-clean_selected.ensures.down) c.requires.there refl (refl, refl) call.becomes call.failed)

pub returns-in_err-flush_device-clause-ranked : goal.returns-in_err-flush_device-clause-ranked
returns-in_err-flush_device-clause-ranked g c = λ h ranked. ranked_to (One c.args.dev) _ _ _ h (seen_down c.self.view_is c.in_ok-clean_selected.ensures.down).becomes ranked

pub invariant_of-self-2 : goal.invariant_of-self-2
invariant_of-self-2 g c =
    let call = c.in_ok-flush_device.ensures in
    devices_keep_pool _ _ (one_kept _ _ _ c.args.dev call.after (down_there (seen_down c.self.view_is c.in_ok-clean_selected.ensures.down) c.requires.there) call.becomes call.done.shape call.done.contents) c.self.invariant

pub returns-clause-down : goal.returns-clause-down
returns-clause-down g c =
    let call = c.in_ok-flush_device.ensures in
    flush_one_down (One c.args.dev) _ _ _ _ c.args.dev call.after (seen_down c.self.view_is c.in_ok-clean_selected.ensures.down) c.requires.there refl (refl, refl) call.becomes call.done

pub returns-clause-ranked : goal.returns-clause-ranked
returns-clause-ranked g c = λ h ranked. ranked_to (One c.args.dev) _ _ _ h (seen_down c.self.view_is c.in_ok-clean_selected.ensures.down).becomes ranked

pub returns-in_err-clean_selected-clause-elsewhere : goal.returns-in_err-clean_selected-clause-elsewhere
returns-in_err-clean_selected-clause-elsewhere g c = let stopped = c.in_err-clean_selected.ensures.stopped in elsewhere_cleaned c.args.dev stopped.frame _ _ stopped.frames

pub returns-in_err-flush_device-clause-elsewhere : goal.returns-in_err-flush_device-clause-elsewhere
returns-in_err-flush_device-clause-elsewhere g c = elsewhere_cleaned c.args.dev _ _ _ (seen_down c.self.view_is c.in_ok-clean_selected.ensures.down).becomes

pub returns-clause-elsewhere : goal.returns-clause-elsewhere
returns-clause-elsewhere g c = elsewhere_cleaned c.args.dev _ _ _ (seen_down c.self.view_is c.in_ok-clean_selected.ensures.down).becomes

pub returns-in_err-clean_selected-clause-others : goal.returns-in_err-clean_selected-clause-others
returns-in_err-clean_selected-clause-others g c = λ k apart. c.in_err-clean_selected.ensures.others k (off_device c.args.dev k apart)

pub returns-in_err-flush_device-clause-others : goal.returns-in_err-flush_device-clause-others
returns-in_err-flush_device-clause-others g c = λ k apart.
    let call = c.in_err-flush_device.ensures in
    flushed_others c.args.dev _ _ call.after call.becomes k apart ∙ ap (λ s. nth_device s.devices k) c.self.view_is
    ∙ c.in_ok-clean_selected.ensures.others k (off_device c.args.dev k apart)

pub returns-clause-others : goal.returns-clause-others
returns-clause-others g c = λ k apart.
    let call = c.in_ok-flush_device.ensures in
    flushed_others c.args.dev _ _ call.after call.becomes k apart ∙ ap (λ s. nth_device s.devices k) c.self.view_is
    ∙ c.in_ok-clean_selected.ensures.others k (off_device c.args.dev k apart)

pub returns-in_err-clean_selected-clause-left : goal.returns-in_err-clean_selected-clause-left
returns-in_err-clean_selected-clause-left g c = on_err _ _ (inl c.in_err-clean_selected.ensures.stopped)

pub returns-in_err-flush_device-clause-left : goal.returns-in_err-flush_device-clause-left
returns-in_err-flush_device-clause-left g c =
    let call = c.in_err-flush_device.ensures in
    on_err _ _ (inr (stops_at_flush c.args.dev _ _ _ call.after (seen_down c.self.view_is c.in_ok-clean_selected.ensures.down) c.requires.there refl (refl, refl) call.becomes call.failed))

pub returns-in_err-clean_selected-clause-once : goal.returns-in_err-clean_selected-clause-once
returns-in_err-clean_selected-clause-once g c = λ k. let same = c.in_err-clean_selected.ensures.unflushed k in omega (arith, same)

pub returns-in_err-flush_device-clause-once : goal.returns-in_err-flush_device-clause-once
returns-in_err-flush_device-clause-once g c =
    let call = c.in_err-flush_device.ensures in
    device_once c.args.self.now.devices _ _ (subst (λ (s : PoolState). FlushesNone c.args.self.now.devices s.devices) (sym c.self.view_is) c.in_ok-clean_selected.ensures.unflushed) c.args.dev call.after (down_there (seen_down c.self.view_is c.in_ok-clean_selected.ensures.down) c.requires.there) call.becomes call.failed.calls

pub returns-clause-once : goal.returns-clause-once
returns-clause-once g c =
    let call = c.in_ok-flush_device.ensures in
    device_once c.args.self.now.devices _ _ (subst (λ (s : PoolState). FlushesNone c.args.self.now.devices s.devices) (sym c.self.view_is) c.in_ok-clean_selected.ensures.unflushed) c.args.dev call.after (down_there (seen_down c.self.view_is c.in_ok-clean_selected.ensures.down) c.requires.there) call.becomes call.done.calls

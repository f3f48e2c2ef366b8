-- What is kept of a warm-up when the pool changes by another call than a pin or a load.
use Rattle.std.proofs.Common.{◌≡◌, ℕ, List, length, map, Some, None, IfSome, ap, sym, subst, ◌∙◌, arith}
use Rattle.std.specs.Prelude.{slice_index_or}
use Rattle.std.proofs.lemmas.List.{length-map}
use Rattle.warm_history.specs.Histories.{HistoryView}
use Rattle.warm_devices.specs.Device.{DeviceState}
use Rattle.warm_rank.specs.Keys.{ranked_page}
use Rattle.warm_rank.specs.Relisting.{WereHottest}
use Rattle.warm_pool.specs.declared.fault.PoolFault.{PoolFault}
use Rattle.warm_pool.specs.declared.fault.PoolFault.TheVariants.{Fault, Fixed, NoDevice, SizeDiffers}
use Rattle.warm_pool.specs.Unchanged.{FailsAt}
use Rattle.warm_pool.specs.Retiring.{RetireRefused, Retired}
use Rattle.warm_pool.specs.View.{FrameView, PoolView}
use Rattle.warm_gossip.specs.declared.warm_step.WarmUp.{WarmUp}
use Rattle.warm_gossip.specs.Step.{nth_page}
use Rattle.warm_gossip.specs.WarmingUp.{IsListed, IsWarming}
use Rattle.warm_gossip.proofs.WarmUpLemmas.{has_same}

-- a warm-up that begins again with the hottest page
pub warms_again : (h : HistoryView) (v w : PoolView) (x : WarmUp)
    → length w.frames ≡ length v.frames → IsWarming h v x → IsWarming h w (record x { passed = 0 })
warms_again h v w x count under = elim x.list as (λ o. IfSome o (λ keys. IsListed h v x.changed.items keys x.passed) → IfSome o (λ keys. IsListed h w x.changed.items keys 0)) [
  | None ↦ λ none. none
  | Some keys ↦ λ u. record { hottest = subst (λ k. WereHottest h k x.changed.items keys) (sym count) u.hottest; past = λ j before. absurd (omega (arith, before)) }
] under

-- the passed pages stay passed if devices and frames stay, whatever the contents
pub warms_on : (h : HistoryView) (v w : PoolView) (x : WarmUp) → w.devices ≡ v.devices
    → w.frames ≡ v.frames → IsWarming h v x → IsWarming h w x
warms_on h v w x devices frames under =
    let nowhere : FrameView = record { page = None; generation = 0; fixes = 0 } in
    elim x.list as (λ o. IfSome o (λ keys. IsListed h v x.changed.items keys x.passed) → IfSome o (λ keys. IsListed h w x.changed.items keys x.passed)) [
      | None ↦ λ none. none
      | Some keys ↦ λ u. record {
        hottest = subst (λ k. WereHottest h k x.changed.items keys) (ap length (sym frames)) u.hottest;
        past = λ j before there loadable. u.past j before there (
          has_same w v (nth_page (map ranked_page keys) j) (sym devices) loadable.0,
          λ i held. loadable.1 i (ap (λ (fs : List FrameView). (slice_index_or fs i nowhere).page) frames ∙ held),
        );
      }
    ] under

-- the same if a call of a device failed, and nothing else has changed
pub warms_failed : (h : HistoryView) (v w : PoolView) (x : WarmUp) (k : ℕ) → FailsAt v k w
    → IsWarming h v x → IsWarming h w x
warms_failed h v w x k fails = warms_on h v w x (ap (λ y. y.devices) fails.becomes) (ap (λ y. y.frames) fails.becomes)

-- ---- a device is retired

-- the number of frames stays
pub retired_count : {v w : PoolView} {dev : ℕ} {device : DeviceState} → Retired v dev device w
    → length w.frames ≡ length v.frames
retired_count {v} retired = ap (λ x. length x.frames) retired.becomes ∙ length-map v.frames _

-- a refusal leaves pages and frames
refused_keeps : (v w : PoolView) (dev : ℕ) (device : DeviceState) (why : PoolFault)
    → RetireRefused v dev device why w → (w.devices ≡ v.devices) × (w.frames ≡ v.frames)
refused_keeps v w dev device NoDevice refused = (ap (λ x. x.devices) refused.1, ap (λ x. x.frames) refused.1)
refused_keeps v w dev device SizeDiffers refused = (ap (λ x. x.devices) refused.2, ap (λ x. x.frames) refused.2)
refused_keeps v w dev device Fixed refused = (ap (λ x. x.devices) refused.3, ap (λ x. x.frames) refused.3)
refused_keeps v w dev device Fault refused = (ap (λ x. x.devices) refused.1.becomes, ap (λ x. x.frames) refused.1.becomes)
refused_keeps v w dev device why refused = absurd refused

-- so the passed pages of a warm-up stay passed
pub not_retired : (h : HistoryView) (v w : PoolView) (x : WarmUp) (dev : ℕ) (device : DeviceState)
    (why : PoolFault) → RetireRefused v dev device why w → IsWarming h v x → IsWarming h w x
not_retired h v w x dev device why refused =
    let same = refused_keeps v w dev device why refused in warms_on h v w x same.0 same.1

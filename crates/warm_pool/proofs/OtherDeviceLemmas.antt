-- Devices of which no page is written back are unchanged.
use Rattle.std.proofs.Common.{◌≡◌, ◌≢◌, ℕ, true, false, List, set, Option, Some, None, Result, refl, sym, ◌∙◌, ap, inl, inr}
use Rattle.std.proofs.lemmas.Bool.{cases_Bool, eq-eqb, ne_eqb, eqb-true, false≢true}
use Rattle.std.proofs.lemmas.List.{get_or-set_other}
use Rattle.warm_stamps.specs.declared.PageId.{PageId}
use Rattle.warm_devices.specs.Device.{DeviceState}
use Rattle.warm_devices.specs.declared.fault.DeviceFault.{DeviceFault}
use Rattle.warm_frame_table.specs.declared.selection.Devices.{Devices}
use Rattle.warm_frame_table.specs.declared.selection.Devices.TheVariants.{One}
use Rattle.warm_frame_table.specs.Selection.{is_on, selects}
use Rattle.warm_pool.specs.DeviceCalls.{PageWrite}
use Rattle.warm_pool.specs.State.{no_device, nth_device}

-- one page was written
pub wrote_on : (old new : List DeviceState) (q : PageId) (page : Option PageId) (bytes : List ℕ)
    (result : Result (Unit {0}) DeviceFault) → page ≡ Some q
    → PageWrite old new q.dev q.no bytes result
    → (k : ℕ) → is_on k page ≡ false → nth_device new k ≡ nth_device old k
wrote_on old new q page bytes result holds call k off =
    ap (λ ds. nth_device ds k) call.becomes
    ∙ get_or-set_other old q.dev k call.after no_device (λ e. false≢true (sym off ∙ ap (is_on k) holds ∙ eq-eqb q.dev k (sym e)))

-- the page of a selected frame was written
pub on_selected : (which : Devices) (page : Option PageId) → selects which page ≡ true → (k : ℕ)
    → ((p : PageId) → p.dev ≡ k → selects which (Some p) ≡ false) → is_on k page ≡ false
on_selected which None is k out = refl
on_selected which (Some p) is k out = elim (cases_Bool (is_on k (Some p))) [
  | inl on ↦ absurd (false≢true (sym (out p (eqb-true p.dev k on)) ∙ is))
  | inr off ↦ off
]

-- no page of another device is selected
pub off_device : (dev k : ℕ) → k ≢ dev → (p : PageId) → p.dev ≡ k
    → selects (One dev) (Some p) ≡ false
off_device dev k apart p on = ne_eqb p.dev dev (λ e. apart (sym on ∙ e))

-- one device was flushed
pub flushed_others : (dev : ℕ) (mid new : List DeviceState) (after : DeviceState)
    → new ≡ set mid dev after
    → (k : ℕ) → k ≢ dev → nth_device new k ≡ nth_device mid k
flushed_others dev mid new after is k apart =
    ap (λ ds. nth_device ds k) is ∙ get_or-set_other mid dev k after no_device apart

-- How often devices are flushed, and that none is read.
use Rattle.std.proofs.Common.{◌≡◌, ℕ, ◌+◌, ◌<◌, ◌≤◌, cond, Bool, true, false, List, length, set, Result, refl, sym, ap, subst, inl, inr, arith}
use Rattle.std.proofs.lemmas.Bool.{cases_eq, cases_lt}
use Rattle.warm_devices.specs.Calls.{DeviceCalls, one_call}
use Rattle.warm_devices.specs.Device.{DeviceState, CountsSettle}
use Rattle.warm_devices.specs.declared.fault.DeviceFault.{DeviceFault}
use Rattle.warm_devices.specs.declared.fault.DeviceFault.TheVariants.{Flush}
use Rattle.warm_frame_table.proofs.ListLemmas.{at_set}
use Rattle.warm_pool.specs.State.{nth_device, no_device}
use Rattle.warm_pool.specs.Calls.{FlushesNone, FlushesOnce, ReadsNone}
use Rattle.warm_pool.specs.DeviceCalls.{PageRead, PageWrite}
use Rattle.warm_pool.specs.steps.Flushes.{FlushedTo, FlushStops}

-- No device is flushed

pub same_none : {old new : List DeviceState} → new ≡ old → FlushesNone old new
same_none is k = ap (λ ds. (nth_device ds k).calls.flushes) is

-- one device changed, but not its count of these calls
one_none : (count : DeviceCalls → ℕ) (old new : List DeviceState) (k : ℕ) (after : DeviceState)
    → k < length old → new ≡ set old k after
    → count after.calls ≡ count (nth_device old k).calls
    → (j : ℕ) → count (nth_device new j).calls ≡ count (nth_device old j).calls
one_none count old new k after there is same j =
    subst (λ ds. count (nth_device ds j).calls ≡ count (nth_device old j).calls) (sym is)
    (at_set no_device (λ i d. count d.calls ≡ count (nth_device old i).calls) old k after there same (λ i ne. refl) j)

pub read_none : (old new : List DeviceState) (k n : ℕ) (bytes : List ℕ)
    (result : Result (Unit {0}) DeviceFault) → k < length old
    → PageRead old new k n bytes result → FlushesNone old new
read_none old new k n bytes result there r = one_none (λ calls. calls.flushes) old new k r.after there r.becomes (ap (λ calls. calls.flushes) r.call.calls)

pub write_none : (old new : List DeviceState) (k n : ℕ) (bytes : List ℕ)
    (result : Result (Unit {0}) DeviceFault) → k < length old
    → PageWrite old new k n bytes result → FlushesNone old new
write_none old new k n bytes result there r = one_none (λ calls. calls.flushes) old new k r.after there r.becomes (ap (λ calls. calls.flushes) r.call.calls)

-- No device is read

pub same_unread : {old new : List DeviceState} → new ≡ old → ReadsNone old new
same_unread is k = ap (λ ds. (nth_device ds k).calls.reads) is

pub write_unread : (old new : List DeviceState) (k n : ℕ) (bytes : List ℕ)
    (result : Result (Unit {0}) DeviceFault) → k < length old
    → PageWrite old new k n bytes result → ReadsNone old new
write_unread old new k n bytes result there r = one_none (λ calls. calls.reads) old new k r.after there r.becomes (ap (λ calls. calls.reads) r.call.calls)

-- Each device is flushed at most once

at_most : (waiting : Bool) (calls : DeviceCalls)
    → (cond waiting (one_call Flush calls) calls).flushes ≤ calls.flushes + 1
at_most true calls = omega arith
at_most false calls = omega arith

settled_once : (old new : DeviceState) → CountsSettle old new
    → new.calls.flushes ≤ old.calls.flushes + 1
settled_once old new is = subst (λ (calls : DeviceCalls). calls.flushes ≤ old.calls.flushes + 1) (sym is) (at_most old.waiting old.calls)

-- what was flushed after other calls
module _ (old mid new : List DeviceState) (none : FlushesNone old mid) where
  pub all_once : (n : ℕ) → FlushedTo n mid new → FlushesOnce old new
  all_once n to k = let before = none k in elim (cases_lt k n) [
    | inl lt ↦ let most = settled_once (nth_device mid k) (nth_device new k) (to.done k lt).calls in omega (arith, before, most)
    | inr ge ↦ let same = ap (λ d. d.calls.flushes) (to.rest k ge) in omega (arith, before, same)
  ]

  pub stopped_once : FlushStops mid new → FlushesOnce old new
  stopped_once stops k = let before = none k in elim (cases_eq k stops.device) [
    | inl e ↦
        let most : (nth_device new k).calls.flushes ≤ (nth_device mid k).calls.flushes + 1 =
        subst (λ m. (nth_device new m).calls.flushes ≤ (nth_device mid m).calls.flushes + 1) (sym e) (settled_once (nth_device mid stops.device) (nth_device new stops.device) stops.fails.calls) in
        omega (arith, before, most)
    | inr ne ↦ elim (cases_lt k stops.device) [
      | inl lt ↦ let most = settled_once (nth_device mid k) (nth_device new k) (stops.done k lt).calls in omega (arith, before, most)
      | inr ge ↦ let same = ap (λ d. d.calls.flushes) (stops.rest k (omega arith)) in omega (arith, before, same)
    ]
  ]

  pub device_once : (k : ℕ) (after : DeviceState) → k < length mid → new ≡ set mid k after
      → CountsSettle (nth_device mid k) after → FlushesOnce old new
  device_once k after there is settled j =
      subst (λ ds. (nth_device ds j).calls.flushes ≤ (nth_device old j).calls.flushes + 1) (sym is)
      (at_set no_device (λ i d. d.calls.flushes ≤ (nth_device old i).calls.flushes + 1) mid k after there
      (let before = none k in let most = settled_once (nth_device mid k) after settled in omega (arith, before, most))
      (λ i ne. let before = none i in omega (arith, before)) j)

-- The state of a page device as proofs see it, and the effect of its calls.
use Rattle.std.specs.Prelude.{◌≡◌, ◌≢◌, ◌⊎◌, ℕ, ◌+◌, ◌-◌, ◌^◌, min, Bool, true, false, IsTrue, List}
use Rattle.std.specs.Prelude.{[], length, slice_index_or, replicate, Result, MatchResult}
use Rattle.std.specs.Prelude.{if◌then◌else◌}
use Rattle.warm_devices.specs.declared.fault.DeviceFault.{DeviceFault}
use Rattle.warm_devices.specs.declared.fault.DeviceFault.TheVariants.{Flush}
use Rattle.warm_devices.specs.Calls.{DeviceCalls, no_calls, one_call}

-- A device as plain data: the contents of its pages, whether a page was written since the last
-- flush, how many calls failed, how many calls were made, and whether it is honest and unfailing.
-- An honest device returns the bytes last written; the calls of an unfailing one never fail.
pub record DeviceState : Type 0 where
  pub pages : ℕ
  pub page_size : ℕ
  pub contents : List (List ℕ)
  pub waiting : Bool
  pub failures : ℕ
  pub calls : DeviceCalls
  pub honest : Bool
  pub unfailing : Bool

-- the bytes of one page
abbrev pub page_at : List (List ℕ) → ℕ → List ℕ
page_at contents k = slice_index_or contents k []

-- a count of failures increased by one, saturating at the greatest `u64`
abbrev pub one_more : ℕ → ℕ
one_more n = min (n + 1) (2 ^ 64 - 1)

-- the number and the size of the pages, and whether the device is honest and unfailing, have not
-- changed
pub record SameShape (old new : DeviceState) : Type 0 where
  pub pages : new.pages ≡ old.pages
  pub page_size : new.page_size ≡ old.page_size
  pub honest : new.honest ≡ old.honest
  pub unfailing : new.unfailing ≡ old.unfailing

-- a fault can only be of this kind, and occurs exactly if the count of failures increased
abbrev pub CountsFault : {T : Type 0} → DeviceFault → Result T DeviceFault → DeviceState
    → DeviceState → Type 0
CountsFault kind result old new =
    MatchResult result (λ _. new.failures ≡ old.failures)
    (λ fault. (fault ≡ kind) × (new.failures ≡ one_more old.failures))

-- one call of this kind was made of the device, and no other
abbrev pub CountsCall : DeviceFault → DeviceState → DeviceState → Type 0
CountsCall kind old new = new.calls ≡ one_call kind old.calls

-- an unflushed device was flushed once; of another one no call was made
abbrev pub CountsSettle : DeviceState → DeviceState → Type 0
CountsSettle old new = new.calls ≡ (if old.waiting then one_call Flush old.calls else old.calls)

-- nothing is unflushed, or something was unflushed and its flush failed
abbrev pub Settles : DeviceState → DeviceState → Type 0
Settles old new =
    ((new.waiting ≡ false) × (new.failures ≡ old.failures))
    ⊎ ((old.waiting ≡ true) × (new.waiting ≡ true) × (new.failures ≡ one_more old.failures))

-- no page but this one has changed
pub record ChangesPage (page : ℕ) (old new : List (List ℕ)) : Type 0 where
  pub count : length new ≡ length old
  pub others : (k : ℕ) → k ≢ page → page_at new k ≡ page_at old k

-- no page of the device but this one has changed
abbrev pub ChangesOnly : ℕ → DeviceState → DeviceState → Type 0
ChangesOnly page old new = ChangesPage page old.contents new.contents

-- a read returns the bytes of the page, if the device is honest
abbrev pub GivesPage : DeviceState → ℕ → List ℕ → Type 0
GivesPage device page bytes = IsTrue device.honest → bytes ≡ page_at device.contents page

-- the page has the written bytes afterwards, if the device is honest
abbrev pub TakesPage : DeviceState → ℕ → List ℕ → DeviceState → Type 0
TakesPage old page bytes new = IsTrue old.honest → page_at new.contents page ≡ bytes

-- whether something is unflushed has not changed
abbrev pub SameWaiting : DeviceState → DeviceState → Type 0
SameWaiting old new = new.waiting ≡ old.waiting

-- an unfailing device has nothing unflushed afterwards
abbrev pub SettlesSurely : DeviceState → DeviceState → Type 0
SettlesSurely old new = IsTrue old.unfailing → new.waiting ≡ false

-- a device in memory whose pages are filled with zeros: it never fails and returns what was written
abbrev pub zeroed : ℕ → ℕ → DeviceState
zeroed pages page_size = record {
  pages = pages;
  page_size = page_size;
  contents = replicate pages (replicate page_size 0);
  waiting = false;
  failures = 0;
  calls = no_calls;
  honest = true;
  unfailing = true;
}

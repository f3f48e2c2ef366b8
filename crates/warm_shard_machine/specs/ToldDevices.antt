-- The state of a device as numbers, which the call of a history has.
use Rattle.std.specs.Prelude.{◌≡◌, ℕ, Bool, true, false, List, [], ◌∷◌, ◌++◌, length}
use Rattle.boxcar.specs.declared.tag.Tag.{Tag}
use Rattle.warm_devices.specs.Device.{DeviceState}

-- a flag as a number: 1 if it is set
abbrev pub bit : Bool → ℕ
bit true = 1
bit false = 0

-- the bytes of each page, and before them how many they are
abbrev pub coded_pages : List (List ℕ) → List ℕ
coded_pages [] = []
coded_pages (page ∷ pages) = length page ∷ (page ++ coded_pages pages)

-- all that a device is as plain data
abbrev pub coded_device : DeviceState → List ℕ
coded_device device =
    device.pages ∷ device.page_size ∷ bit device.waiting ∷ device.failures ∷ device.calls.reads
    ∷ device.calls.writes ∷ device.calls.flushes ∷ bit device.honest ∷ bit device.unfailing
    ∷ coded_pages device.contents

-- these numbers are those of a device of this state
abbrev pub IsTold : Tag → DeviceState → Type 0
IsTold told device = told.numbers ≡ coded_device device

-- devices of the same numbers are of the same state
abbrev pub ToldAreOne : Type 0
ToldAreOne = (d e : DeviceState) → coded_device d ≡ coded_device e → d ≡ e

-- What a table of settings means: the setup and its devices, or the first fault.
use Rattle.std.specs.Prelude.{ℕ, ℤ, pos, List, [], ◌∷◌, length, Bool, ◌&&◌, nat_le, int_le, nat_abs}
use Rattle.std.specs.Prelude.{Result, Ok, Err, Option, Some, None, is_some, codes, bytes_eq}
use Rattle.std.specs.Prelude.{if◌then◌else◌}
use Rattle.std.specs.Option.{ok_or}
use Rattle.std.specs.List.{list_all}
use Rattle.toml.specs.Data.{Data, Items, no_items, item, Members, no_members, member, as_integer}
use Rattle.toml.specs.Data.{as_str, as_array, as_table}
use Rattle.warm_stamps.specs.declared.TheConstants.{MAX_REPLICAS}
use Rattle.warm_rank.specs.declared.TheConstants.{MAX_FRAMES}
use Rattle.warm_refbuffer.specs.declared.TheConstants.{MAX_CAPACITY}
use Rattle.warm_devices.specs.declared.TheConstants.{MAX_PAGE_SIZE}
use Rattle.warm_world.specs.declared.TheConstants.{MAX_WORKERS}
use Rattle.warm_world.specs.Sizes.{Sizes}
use Rattle.warm_setup.specs.declared.setup.TheConstants.{MAX_LISTED_DEVICES, MAX_PAGES}
use Rattle.warm_setup.specs.declared.setup.DeviceSpec.{DeviceSpec}
use Rattle.warm_setup.specs.declared.setup.SetupFault.{SetupFault}
use Rattle.warm_setup.specs.declared.setup.SetupFault.TheVariants.{NotToml, BadKey, BadValue}

infixl 10 ◌>>=◌
-- the next reader gets the value that was read; the first fault ends the reading
abbrev pub ◌>>=◌ : {A B : Type 0} → Result A SetupFault → (A → Result B SetupFault)
    → Result B SetupFault
(Ok value) >>= next = next value
(Err fault) >>= next = Err fault

-- ---- values

-- an integer from 1 to a limit
abbrev pub within : ℕ → ℤ → Result ℕ SetupFault
within limit z = if int_le (pos 1) z && int_le z (pos limit) then Ok (nat_abs z) else Err BadValue

-- the value as an integer from 1 to a limit
unfoldable pub number_to : ℕ → Data → Result ℕ SetupFault
number_to limit found = ok_or (as_integer found) BadKey >>= within limit

-- a text of at least one byte
abbrev pub at_least_a_byte : List ℕ → Result (List ℕ) SetupFault
at_least_a_byte [] = Err BadValue
at_least_a_byte (byte ∷ bytes) = Ok (byte ∷ bytes)

-- the value as a text of at least one byte
unfoldable pub text_in : Data → Result (List ℕ) SetupFault
text_in found = ok_or (as_str found) BadKey >>= at_least_a_byte

-- ---- tables and arrays

-- a table's keys in their order, up to the first fault
unfoldable pub key_by_key : {A : Type 0} → (A → List ℕ → Data → Result A SetupFault) → A → Members
    → Result A SetupFault
key_by_key take so_far no_members = Ok so_far
key_by_key take so_far (member key found rest) =
    take so_far key found >>= λ next. key_by_key take next rest

-- the elements of an array
abbrev pub list_of : Items → List Data
list_of no_items = []
list_of (item found rest) = found ∷ list_of rest

-- each element in turn, up to the first fault
unfoldable pub each : {A : Type 0} → (Data → Result A SetupFault) → List Data
    → Result (List A) SetupFault
each take [] = Ok []
each take (found ∷ rest) = take found >>= λ first. each take rest >>= λ others. Ok (first ∷ others)

-- ---- a device

-- the fields of a device's table read so far
pub record DeviceFields : Type 0 where
  pub pages : Option ℕ
  pub path : Option (List ℕ)

-- the fields after one more key
unfoldable pub with_device_key : DeviceFields → List ℕ → Data → Result DeviceFields SetupFault
with_device_key fields key found =
    if bytes_eq key (codes "pages")
    then (number_to MAX_PAGES found >>= λ n. Ok (record fields { pages = Some n }))
    else (if bytes_eq key (codes "path")
    then (text_in found >>= λ text. Ok (record fields { path = Some text }))
    else Err BadKey)

-- no field was read
abbrev pub no_fields : DeviceFields
no_fields = record { pages = None; path = None }

-- the pages are required, which is checked last
abbrev pub finished : DeviceFields → Result DeviceSpec SetupFault
finished fields = ok_or fields.pages BadKey >>= λ n. Ok (record { pages = n; path = fields.path })

-- a value that is the table of a device
unfoldable pub device_in : Data → Result DeviceSpec SetupFault
device_in found =
    ok_or (as_table found) BadKey >>= λ table. key_by_key with_device_key no_fields table
    >>= finished

-- whether a value is a table
abbrev pub is_table : Data → Bool
is_table found = is_some (as_table found)

-- the types are checked first, then the number of devices, then each device
unfoldable pub devices_of : List Data → Result (List DeviceSpec) SetupFault
devices_of found =
    if list_all is_table found
    then (if nat_le 1 (length found) && nat_le (length found) MAX_LISTED_DEVICES
    then each device_in found
    else Err BadValue)
    else Err BadKey

-- a value that is a list of devices
unfoldable pub devices_in : Data → Result (List DeviceSpec) SetupFault
devices_in found = ok_or (as_array found) BadKey >>= λ items. devices_of (list_of items)

-- ---- the settings

-- a setup's numbers and devices
pub record Settings : Type 0 where
  pub sizes : Sizes
  pub devices : List DeviceSpec

-- the settings after one key, each key with its valid values
unfoldable pub with_key : Settings → List ℕ → Data → Result Settings SetupFault
with_key s key found =
    if bytes_eq key (codes "buffer")
    then (number_to MAX_CAPACITY found >>= λ n.
    Ok (record s { sizes = record s.sizes { buffer = n } }))
    else (if bytes_eq key (codes "device")
    then (devices_in found >>= λ ds. Ok (record s { devices = ds }))
    else (if bytes_eq key (codes "frames")
    then (number_to MAX_FRAMES found >>= λ n.
    Ok (record s { sizes = record s.sizes { frames = n } }))
    else (if bytes_eq key (codes "page_size")
    then (number_to MAX_PAGE_SIZE found >>= λ n.
    Ok (record s { sizes = record s.sizes { page_size = n } }))
    else (if bytes_eq key (codes "replicas")
    then (number_to MAX_REPLICAS found >>= λ n.
    Ok (record s { sizes = record s.sizes { replicas = n } }))
    else (if bytes_eq key (codes "workers")
    then (number_to MAX_WORKERS found >>= λ n.
    Ok (record s { sizes = record s.sizes { workers = n } }))
    else Err BadKey)))))

-- the defaults for missing keys; the default device is one in memory of 256 pages
abbrev pub defaults : Settings
defaults = record {
  sizes = record { replicas = 3; workers = 2; buffer = 64; frames = 4; page_size = 16 };
  devices = record { pages = 256; path = None } ∷ [];
}

-- the setup that a table of settings stands for
abbrev pub setup_of : Members → Result Settings SetupFault
setup_of table = key_by_key with_key defaults table

-- the meaning of a text, by its TOML table
abbrev pub setup_in : Option Members → Result Settings SetupFault
setup_in None = Err NotToml
setup_in (Some table) = setup_of table

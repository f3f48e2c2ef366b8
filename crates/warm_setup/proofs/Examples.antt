-- Worked examples, computed: texts and their meanings.
use Rattle.std.proofs.Common.{◌≡◌, ℕ, List, [], ◌∷◌, ◌++◌, Result, Ok, Err, Some, codes, refl}
use Rattle.toml.proofs.OnLiterals.{toml_on_literals}
use Rattle.toml.specs.Parse.{parse_document}
use Rattle.warm_setup.specs.declared.setup.SetupFault.{SetupFault}
use Rattle.warm_setup.specs.declared.setup.SetupFault.TheVariants.{NotToml, BadKey, BadValue}
use Rattle.warm_setup.specs.Setups.{Settings, defaults, setup_in, key_by_key, each, with_key, with_device_key, number_to, text_in, device_in, devices_of, devices_in}

abbrev meaning : List ℕ → Result Settings SetupFault
meaning text = setup_in (parse_document text)

empty : meaning [] ≡ Ok defaults
unfolding toml_on_literals key_by_key
empty = refl

two_frames : meaning (codes "frames = 2")
    ≡ Ok (record defaults { sizes = record defaults.sizes { frames = 2 } })
unfolding toml_on_literals key_by_key with_key number_to
two_frames = refl

no_frames : meaning (codes "frames = 0") ≡ Err BadValue
unfolding toml_on_literals key_by_key with_key number_to
no_frames = refl

frames_as_text : meaning (codes "frames = \"2\"") ≡ Err BadKey
unfolding toml_on_literals key_by_key with_key number_to
frames_as_text = refl

other_key : meaning (codes "colour = 1") ≡ Err BadKey
unfolding toml_on_literals key_by_key with_key number_to
other_key = refl

no_value : meaning (codes "frames =") ≡ Err NotToml
unfolding toml_on_literals key_by_key with_key number_to
no_value = refl

file_device : meaning (codes "device = [{pages = 8, path = \"a\"}]")
    ≡ Ok (record defaults { devices = record { pages = 8; path = Some (codes "a") } ∷ [] })
unfolding toml_on_literals key_by_key with_key number_to text_in devices_in devices_of each device_in with_device_key
file_device = refl

no_pages : meaning (codes "device = [{path = \"a\"}]") ≡ Err BadKey
unfolding toml_on_literals key_by_key with_key number_to text_in devices_in devices_of each device_in with_device_key
no_pages = refl

-- the empty path is met before the missing pages
empty_path : meaning (codes "device = [{path = \"\"}]") ≡ Err BadValue
unfolding toml_on_literals key_by_key with_key number_to text_in devices_in devices_of each device_in with_device_key
empty_path = refl

no_device : meaning (codes "device = []") ≡ Err BadValue
unfolding toml_on_literals key_by_key with_key number_to text_in devices_in devices_of each device_in with_device_key
no_device = refl

-- a type is seen before the number of devices and before their keys
number_among_devices : meaning (codes "device = [{pages = 0}, 1]") ≡ Err BadKey
unfolding toml_on_literals key_by_key with_key number_to text_in devices_in devices_of each device_in with_device_key
number_among_devices = refl

-- the keys' order decides, and not their position in the text
first_by_key : meaning (codes "frames = \"2\"" ++ 10 ∷ codes "buffer = 0") ≡ Err BadValue
unfolding toml_on_literals key_by_key with_key number_to
first_by_key = refl

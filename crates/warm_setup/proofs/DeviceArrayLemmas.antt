-- The array of devices: its types, its length, its elements.
use Rattle.std.proofs.Common.{◌≡◌, ℕ, List, [], ◌∷◌, map, length, ◌<◌, ◌≤◌, nat_le, ◌&&◌, Bool, true, false, Err, Some, refl, sym, ap, ◌∙◌, arith}
use Rattle.std.proofs.lemmas.List.Folds.{list_all-map}
use Rattle.std.proofs.lemmas.List.{length-map}
use Rattle.std.proofs.lemmas.Bool.{le-leb}
use Rattle.std.specs.List.{list_all}
use Rattle.toml.specs.Data.{Data, as_array}
use Rattle.toml.specs.View.{view, items_of, items_view}
use Rattle.toml.specs.declared.value.Value.{Value}
use Rattle.warm_setup.specs.declared.setup.TheConstants.{MAX_LISTED_DEVICES}
use Rattle.warm_setup.specs.declared.setup.SetupFault.TheVariants.{BadKey, BadValue}
use Rattle.warm_setup.specs.Setups.{devices_of, device_in, each, is_table, list_of, devices_in}

in_range : (n : ℕ) → 1 ≤ n → n ≤ MAX_LISTED_DEVICES
    → (nat_le 1 n && nat_le n MAX_LISTED_DEVICES) ≡ true
in_range n least most = rw (le-leb 1 n least, le-leb n MAX_LISTED_DEVICES most) refl

above_range : (n : ℕ) → MAX_LISTED_DEVICES < n → (nat_le 1 n && nat_le n MAX_LISTED_DEVICES) ≡ false
above_range n more = grind arith

module _ (values : List Value) where
  types : (tables : Bool) → tables ≡ list_all (λ value. is_table (view value)) values
      → list_all is_table (map view values) ≡ tables
  types tables e = list_all-map is_table view values ∙ sym e

  pub other_types : false ≡ list_all (λ value. is_table (view value)) values
      → devices_of (map view values) ≡ Err BadKey
  unfolding devices_of
  other_types e = rw (types false e) refl

  module _ (tables : true ≡ list_all (λ value. is_table (view value)) values) where
    pub no_devices : length values ≡ 0 → devices_of (map view values) ≡ Err BadValue
    unfolding devices_of
    no_devices none = rw (types true tables, length-map values view, none) refl

    pub many_devices : MAX_LISTED_DEVICES < length values
        → devices_of (map view values) ≡ Err BadValue
    unfolding devices_of
    many_devices more = rw (types true tables, length-map values view, above_range (length values) more) refl

    pub some_devices : 1 ≤ length values → length values ≤ MAX_LISTED_DEVICES
        → devices_of (map view values) ≡ each device_in (map view values)
    unfolding devices_of
    some_devices least most = rw (types true tables, length-map values view, in_range (length values) least most) refl

pub list_of-items_of : (found : List Data) → list_of (items_of found) ≡ found
list_of-items_of [] = refl
list_of-items_of (x ∷ xs) = ap (λ ys. x ∷ ys) (list_of-items_of xs)

-- the elements of an array, as a slice shows them
pub devices_in-array : (found : Data) (values shown : List Value)
    → Some (items_view values) ≡ as_array found → shown ≡ values
    → devices_in found ≡ devices_of (map view shown)
unfolding devices_in
devices_in-array found values shown is same = rw (← is, same) (ap devices_of (list_of-items_of (map view values)))

-- A run merged with the pairs of its bucket.
use Rattle.std.specs.Prelude.{◌≡◌, ◌≢◌, ◌⊎◌, ℕ, ◌≤◌, ◌==◌, Bool, cond, true, false, [], ◌∷◌, ◌++◌}
use Rattle.std.specs.Prelude.{Option, Some, None, IsSome}
use Rattle.std.specs.List.{AllByRecursion}
use Rattle.std.specs.Option.{option_map}
use Rattle.std.specs.Map.Iter.{deref_pair}
use Rattle.warm_maps.specs.declared.hist.PageHist.{PageHist}
use Rattle.warm_maps.specs.declared.walk.Ahead.{Ahead}
use Rattle.warm_maps.specs.PageHists.{latest_of, hist_stamps, known_stamps}
use Rattle.warm_maps.specs.MapPairs.{MapPairs}
use Rattle.warm_maps.specs.BucketMaps.{KeysAscend, found}
use Rattle.warm_maps.specs.Runs.{at_key, with_pairs}

-- the two latest of these stamps and of those known
abbrev pub joined_with : PageHist → Option PageHist → Option PageHist
joined_with more known = latest_of (hist_stamps more ++ known_stamps known)

-- the pairs of a run, each with the two latest of its stamps and of those that old has at its key
abbrev pub joined_pairs : MapPairs → MapPairs → MapPairs
joined_pairs old [] = []
joined_pairs old (e ∷ run) = at_key e.0 (joined_with e.1 (found e.0 old)) ++ joined_pairs old run

-- the pairs old with the stamps of a run taken in
abbrev pub merged : MapPairs → MapPairs → MapPairs
merged old run = with_pairs old (joined_pairs old run)

-- each value of the pairs is the two latest of its own stamps
abbrev pub AreTwoLatest : MapPairs → Type 0
AreTwoLatest pairs = AllByRecursion (λ e. joined_with e.1 None ≡ Some e.1) pairs

-- the pair, if there is one, and then the others
abbrev pub pair_and : Option (ℕ × PageHist) → MapPairs → MapPairs
pair_and None later = []
pair_and (Some e) later = e ∷ later

-- the pairs that a walk has ahead
abbrev pub pairs_ahead : Ahead → MapPairs
pairs_ahead a = pair_and (option_map deref_pair a.first) a.later

-- from this key on, the pairs ahead are those of all, at rising keys
pub record HoldsFrom (key : ℕ) (ahead all : MapPairs) : Type 0 where
  pub rise : KeysAscend ahead
  pub same : (q : ℕ) → key ≤ q → found q ahead ≡ found q all

-- a value h at a key is new; is the one known there; or differs from it. The pair is among those
-- that are new, in neither list, or among those that change
abbrev pub IsPart : Option PageHist → ℕ → PageHist → MapPairs → MapPairs → Type 0
IsPart None key h changed fresh = (changed ≡ []) × (fresh ≡ (key, h) ∷ [])
IsPart (Some g) key h changed fresh = (fresh ≡ [])
    × (((g ≡ h) × (changed ≡ [])) ⊎ ((g ≢ h) × (changed ≡ (key, h) ∷ [])))

-- a pair of a run is added to those that change, to those that are new, or to neither
pub record AddsPart (known : Option PageHist) (key : ℕ) (more : PageHist)
    (changed fresh changed' fresh' : MapPairs) : Type 0 where
  pub value : PageHist
  pub change : MapPairs
  pub new : MapPairs
  pub joins : joined_with more known ≡ Some value
  pub part : IsPart known key value change new
  pub changed_is : changed' ≡ changed ++ change
  pub fresh_is : fresh' ≡ fresh ++ new

-- what a run changes in the pairs old: values at keys that are there, and pairs at keys that are
-- new
abbrev pub AreParts : MapPairs → MapPairs → MapPairs → MapPairs → Type 0
AreParts old [] changed fresh = (changed ≡ []) × (fresh ≡ [])
AreParts old (e ∷ run) changed fresh = (c : MapPairs) × (f : MapPairs) × AreParts old run c f
    × (h : PageHist) × (pc : MapPairs) × (pf : MapPairs)
    × (joined_with e.1 (found e.0 old) ≡ Some h) × IsPart (found e.0 old) e.0 h pc pf
    × (changed ≡ pc ++ c) × (fresh ≡ pf ++ f)

-- the pairs old have no value at the keys of these
abbrev pub AreAbsent : MapPairs → MapPairs → Type 0
AreAbsent pairs old = AllByRecursion (λ e. found e.0 old ≡ None) pairs

-- the pairs old have a value at each key of the pairs
abbrev pub AreThere : MapPairs → MapPairs → Type 0
AreThere pairs old = AllByRecursion (λ e. IsSome (found e.0 old)) pairs

-- at all keys but those of these pairs, both have the same
abbrev pub SameElsewhere : MapPairs → MapPairs → MapPairs → Type 0
SameElsewhere pairs old new = (key : ℕ) → found key pairs ≡ None → found key new ≡ found key old

-- at a key of the run the new pairs have another value
abbrev pub DiffersAt : MapPairs → MapPairs → MapPairs → Type 0
DiffersAt run old new = (key : ℕ) × IsSome (found key run) × (found key new ≢ found key old)

-- whether the run has changed the pairs
abbrev pub TellsChange : Bool → MapPairs → MapPairs → MapPairs → Type 0
TellsChange changed run old new = (changed ≡ true → DiffersAt run old new)
    × (changed ≡ false → new ≡ old)

-- at this key, the value of the first pair that is left, if it is the pair of the key, or else h
abbrev pub next_value : MapPairs → ℕ → PageHist → PageHist
next_value [] key h = h
next_value (e ∷ left) key h = cond (e.0 == key) e.1 h

-- the pairs that are left after this key
abbrev pub next_left : MapPairs → ℕ → MapPairs
next_left [] key = []
next_left (e ∷ left) key = cond (e.0 == key) left (e ∷ left)

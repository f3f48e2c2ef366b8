-- Runs: entries of one bucket at rising keys.
use Rattle.std.specs.Prelude.{◌≡◌, ℕ, List, [], ◌∷◌, ◌++◌, ◌+◌, ◌≤◌, ◌<◌, ⊤, filter, Option, Some}
use Rattle.std.specs.Prelude.{None}
use Rattle.std.specs.List.{AllByRecursion}
use Rattle.std.specs.BTreeMap.{insert_entry}
use Rattle.std.specs.Ordering.{nat_cmp}
use Rattle.warm_maps.specs.declared.map_key.TheConstants.{NEAR_DEVICES}
use Rattle.warm_maps.specs.declared.hist.PageHist.{PageHist}
use Rattle.warm_maps.specs.declared.hist.Entry.{Entry}
use Rattle.warm_maps.specs.PageHists.{latest_of, hist_stamps, is_kept}
use Rattle.warm_maps.specs.MapKeys.{first_key, first_far_key, key_of_page, near_key, page_of_key}
use Rattle.warm_maps.specs.MapPairs.{MapPairs}

-- the entries are at rising keys, all from the first of these on and before the other
abbrev pub RiseWithin : ℕ → ℕ → List Entry → Type 0
RiseWithin from to [] = ⊤
RiseWithin from to (e ∷ es) = (from ≤ key_of_page e.page) × (key_of_page e.page < to)
    × (page_of_key (key_of_page e.page) ≡ e.page) × RiseWithin (key_of_page e.page + 1) to es

-- the entries are a run of the bucket of this number, all of near devices
abbrev pub IsRun : ℕ → List Entry → Type 0
IsRun number es = RiseWithin (first_key number) (first_far_key number) es

-- the pair of a key, if there is a value
abbrev pub at_key : ℕ → Option PageHist → MapPairs
at_key key None = []
at_key key (Some h) = (key, h) ∷ []

-- the pair of an entry without the stamps older than the horizon, if any is left
abbrev pub pair_of_entry : ℕ → Entry → MapPairs
pair_of_entry horizon e =
    at_key (key_of_page e.page) (latest_of (filter (is_kept horizon) (hist_stamps e.hist)))

-- the pairs of entries
abbrev pub run_pairs : ℕ → List Entry → MapPairs
run_pairs horizon [] = []
run_pairs horizon (e ∷ es) = pair_of_entry horizon e ++ run_pairs horizon es

-- the entries are of near devices
abbrev pub AreNear : List Entry → Type 0
AreNear es = AllByRecursion (λ e. e.page.dev < NEAR_DEVICES) es

-- the pair, at its near key, of an entry without the stamps older than the horizon, if any is left
abbrev pub near_pair : ℕ → Entry → MapPairs
near_pair horizon e =
    at_key (near_key e.page) (latest_of (filter (is_kept horizon) (hist_stamps e.hist)))

-- the pairs of entries, at near keys, without the stamps older than the horizon
abbrev pub near_run : ℕ → List Entry → MapPairs
near_run horizon [] = []
near_run horizon (e ∷ es) = near_pair horizon e ++ near_run horizon es

-- pairs with others put in
abbrev pub with_pairs : MapPairs → MapPairs → MapPairs
with_pairs pairs [] = pairs
with_pairs pairs (e ∷ run) = insert_entry nat_cmp (with_pairs pairs run) e.0 e.1

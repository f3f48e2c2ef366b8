-- The pairs of maps: the history of each page at a key.
use Rattle.std.specs.Prelude.{ℕ, List, map}
use Rattle.std.specs.List.{AllByRecursion}
use Rattle.std.specs.Ordering.{nat_cmp, on}
use Rattle.warm_stamps.specs.Distinct.{IsAscending}
use Rattle.warm_maps.specs.declared.hist.PageHist.{PageHist}
use Rattle.warm_maps.specs.declared.hist.Entry.{Entry}
use Rattle.warm_maps.specs.PageHists.{IsDescending}
use Rattle.warm_maps.specs.MapKeys.{page_of_key, IsMapKey}

-- the contents of maps from keys to histories of pages, by key
abbrev pub MapPairs : Type 0
MapPairs = List (ℕ × PageHist)

-- the pairs as entries
abbrev pub as_entries : MapPairs → List Entry
as_entries pairs = map (λ e. record { page = page_of_key e.0; hist = e.1 }) pairs

-- the invariant of pairs: they lie at rising valid keys, and the stamps of each fall
pub record AreKept (pairs : MapPairs) : Type 0 where
  pub keys_ascend : IsAscending (on (λ e. e.0) nat_cmp) pairs
  pub are_keys : AllByRecursion (λ e. IsMapKey e.0) pairs
  pub stamps_descend : AllByRecursion (λ e. IsDescending e.1) pairs

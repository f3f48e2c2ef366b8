-- The pairs of a history's maps: which entries they keep, and which references they take in.
use Rattle.std.specs.Prelude.{◌≡◌, ℕ, List, [], ◌∷◌, ◌++◌}
use Rattle.std.specs.Ordering.{match_ordering}
use Rattle.warm_stamps.specs.declared.Reference.{Reference}
use Rattle.warm_stamps.specs.Stamps.{page_cmp}
use Rattle.warm_maps.specs.declared.hist.PageHist.{PageHist}
use Rattle.warm_maps.specs.declared.hist.Entry.{Entry}
use Rattle.warm_history.specs.ReferenceSets.{references_from}
use Rattle.warm_history.specs.ListHistories.{references_of_entry, list_references_of, list_history}
use Rattle.warm_maps.specs.MapKeys.{page_of_key}
use Rattle.warm_maps.specs.MapPairs.{MapPairs, as_entries}

-- rising entries with one inserted; it replaces the entry of the same page, if there is one
abbrev pub put_in : Entry → List Entry → List Entry
put_in e [] = e ∷ []
put_in e (x ∷ h) = match_ordering (page_cmp e.page x.page) (e ∷ x ∷ h) (e ∷ h) (x ∷ put_in e h)

-- the entries of a list, in rising page order
abbrev pub in_page_order : List Entry → List Entry
in_page_order [] = []
in_page_order (e ∷ es) = put_in e (in_page_order es)

-- the entries of the pairs, in page order
abbrev pub kept : MapPairs → List Entry
kept pairs = in_page_order (as_entries pairs)

-- the references of a page's stamps
abbrev pub references_at : ℕ → PageHist → List Reference
references_at key h = references_of_entry (record { page = page_of_key key; hist = h })

-- the pairs new hold the entries of old, with these references taken in
abbrev pub PairsTakeIn : MapPairs → List Reference → MapPairs → Type 0
PairsTakeIn old rs new = kept new ≡ list_history (list_references_of (kept old) ++ rs)

-- the pairs new hold the entries of old, with the stamps of the page at a key taken in
abbrev pub TakesStamps : MapPairs → ℕ → PageHist → MapPairs → Type 0
TakesStamps old key h new = PairsTakeIn old (references_at key h) new

-- the pairs new hold the entries of old, with those stamps of the page at a key taken in that
-- aren't older than the horizon
abbrev pub TakesRecent : ℕ → MapPairs → ℕ → PageHist → MapPairs → Type 0
TakesRecent horizon old key h new =
    PairsTakeIn old (references_from horizon (references_at key h)) new

-- the pairs new hold the entries of old, with those of these references taken in that aren't older
-- than the horizon
abbrev pub TakesReferences : ℕ → MapPairs → List Reference → MapPairs → Type 0
TakesReferences horizon old rs new = PairsTakeIn old (references_from horizon rs) new

-- the pairs new hold the entries of old, with those references of these entries taken in that
-- aren't older than the horizon
abbrev pub TakesEntries : ℕ → MapPairs → List Entry → MapPairs → Type 0
TakesEntries horizon old es new =
    PairsTakeIn old (references_from horizon (list_references_of es)) new

-- the pairs new hold the entries of old, with those references of the pairs `more` taken in that
-- aren't older than the horizon
abbrev pub TakesPairs : ℕ → MapPairs → MapPairs → MapPairs → Type 0
TakesPairs horizon old more new =
    PairsTakeIn old (references_from horizon (list_references_of (kept more))) new

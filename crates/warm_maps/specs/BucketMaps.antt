-- A map from keys, stored as one map per bucket.
use Rattle.std.specs.Prelude.{◌≡◌, ◌≢◌, ℕ, Bool, true, List, [], ◌∷◌, ◌++◌, ◌+◌, ◌≤◌, ◌<◌, ⊤, zero}
use Rattle.std.specs.Prelude.{suc, filter, Option, Some, None}
use Rattle.std.specs.List.{AllByRecursion}
use Rattle.std.specs.Map.{lookup}
use Rattle.std.specs.BTreeMap.{is_at, insert_entry}
use Rattle.std.specs.declared.cmp.Ordering.{Ordering}
use Rattle.std.specs.Ordering.{nat_cmp, on}
use Rattle.warm_stamps.specs.Distinct.{IsAscending}
use Rattle.warm_stamps.specs.declared.PageId.{PageId}
use Rattle.warm_maps.specs.declared.hist.PageHist.{PageHist}
use Rattle.warm_maps.specs.declared.bucket_map.BucketMap.{BucketMap}
use Rattle.warm_maps.specs.declared.bucket_map.Change.{Change}
use Rattle.warm_maps.specs.declared.bucket_map.UndoNote.{UndoNote}
use Rattle.warm_maps.specs.PageHists.{latest_of, hist_stamps, known_stamps}
use Rattle.warm_maps.specs.MapKeys.{first_key}
use Rattle.warm_maps.specs.MapPairs.{MapPairs}
use Rattle.warm_maps.specs.NearPairs.{fulls}
use Rattle.warm_maps.specs.Undo.{noted}

-- the pairs of all maps, one map after another
abbrev pub all_pairs : List MapPairs → MapPairs
all_pairs [] = []
all_pairs (m ∷ ms) = m ++ all_pairs ms

-- the key lies in the bucket of this number
abbrev pub LiesIn : ℕ → ℕ → Type 0
LiesIn bucket key = (first_key bucket ≤ key) × (key < first_key (bucket + 1))

-- each map has only keys of its own bucket; the first map is that of the bucket of this number
abbrev pub AreBuckets : ℕ → List MapPairs → Type 0
AreBuckets bucket [] = ⊤
AreBuckets bucket (m ∷ ms) = AllByRecursion (λ e. LiesIn bucket e.0) m × AreBuckets (bucket + 1) ms

-- the map of number i, or no pairs if there is none
abbrev pub map_at : List MapPairs → ℕ → MapPairs
map_at [] i = []
map_at (m ∷ ms) zero = m
map_at (m ∷ ms) (suc i) = map_at ms i

-- the maps, with the map of number i replaced
abbrev pub with_map : List MapPairs → ℕ → MapPairs → List MapPairs
with_map [] i n = []
with_map (m ∷ ms) zero n = n ∷ ms
with_map (m ∷ ms) (suc i) n = m ∷ with_map ms i n

-- the test passes for keys of this bucket alone
abbrev pub PassesIn : ℕ → (ℕ → Bool) → Type 0
PassesIn bucket test = (key : ℕ) → test key ≡ true → LiesIn bucket key

-- the map has what the pairs have at keys of this bucket: a test that only such keys pass
-- selects the same pairs of both
abbrev pub HoldsBucket : ℕ → MapPairs → MapPairs → Type 0
HoldsBucket bucket m pairs = (test : ℕ → Bool) → PassesIn bucket test
    → filter (λ e. test e.0) m ≡ filter (λ e. test e.0) pairs

-- the pairs left to visit: these of the current bucket, then those of the buckets from this number
-- on
abbrev pub pairs_left : MapPairs → ℕ → List BucketMap → MapPairs
pairs_left here next rest = here ++ all_pairs (fulls next rest)

-- the pairs lie at rising keys
abbrev pub KeysAscend : MapPairs → Type 0
KeysAscend pairs = IsAscending (on (λ e. e.0) nat_cmp) pairs

-- the value that the pairs have at the key
abbrev pub found : ℕ → MapPairs → Option PageHist
found key pairs = lookup (is_at (nat_cmp key)) pairs

-- the note is of the page and gives the pairs' old value at the key, if h is the new one and
-- differs; without a note the pairs are unchanged
abbrev pub IsNoteAt : {K : Type 0} → (K → K → Ordering) → Option UndoNote → PageId → K → PageHist
    → List (K × PageHist) → List (K × PageHist) → Type 0
IsNoteAt cmp None page key h old new = new ≡ old
IsNoteAt cmp (Some k) page key h old new = (k.page ≡ page) × (k.hist ≡ lookup (is_at (cmp key)) old)
    × (k.hist ≢ Some h)

-- new are the pairs old, with the two latest of the stamps there and those of `more` at the key of
-- the page; keys of any type, in the order that cmp gives
abbrev pub RecordsAt : {K : Type 0} → (K → K → Ordering) → List (K × PageHist) → PageId → K
    → PageHist → Option UndoNote → List (K × PageHist) → Type 0
RecordsAt cmp old page key more note new = (h : PageHist)
    × (Some h ≡ latest_of (hist_stamps more ++ known_stamps (lookup (is_at (cmp key)) old)))
    × (new ≡ insert_entry cmp old key h) × IsNoteAt cmp note page key h old new

-- new are the pairs old, with the two latest of the stamps there and those of `more` at a key; the
-- change and `before` say what was known there; any page may have the key
abbrev pub ChangesAt : {K : Type 0} → (K → K → Ordering) → List (K × PageHist) → K → PageHist
    → Option Change → PageHist → List (K × PageHist) → Type 0
ChangesAt cmp old key more change before new = (page : PageId)
    → RecordsAt cmp old page key more (noted page change before) new

-- the note gives the old value at a key that is a number, if that has changed
abbrev pub IsUndoNote : Option UndoNote → PageId → ℕ → PageHist → MapPairs → MapPairs → Type 0
IsUndoNote note page key h old new = IsNoteAt nat_cmp note page key h old new

-- the pairs have the two latest of these stamps at a key that is a number, and the note says what
-- was there
abbrev pub RecordsStamps : MapPairs → PageId → ℕ → PageHist → Option UndoNote → MapPairs → Type 0
RecordsStamps old page key more note new = RecordsAt nat_cmp old page key more note new

-- the value at the key has changed, if there is a note; without a note the pairs are unchanged
abbrev pub SaysNote : Option UndoNote → ℕ → MapPairs → MapPairs → Type 0
SaysNote None key old new = new ≡ old
SaysNote (Some k) key old new = found key new ≢ found key old

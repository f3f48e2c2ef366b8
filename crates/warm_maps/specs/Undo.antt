-- Undoing changes of maps.
use Rattle.std.specs.Prelude.{◌≡◌, ℕ, List, [], ◌∷◌, Option, Some, None}
use Rattle.std.specs.Map.{remove_entry, set_value}
use Rattle.std.specs.BTreeMap.{is_at}
use Rattle.std.specs.declared.cmp.Ordering.{Ordering}
use Rattle.std.specs.Ordering.{nat_cmp}
use Rattle.warm_maps.specs.declared.hist.PageHist.{PageHist}
use Rattle.warm_stamps.specs.declared.PageId.{PageId}
use Rattle.warm_maps.specs.declared.bucket_map.Change.{Change}
use Rattle.warm_maps.specs.declared.bucket_map.Change.TheVariants.{New, Known}
use Rattle.warm_maps.specs.declared.bucket_map.UndoNote.{UndoNote}
use Rattle.warm_maps.specs.MapKeys.{key_of_page}
use Rattle.warm_maps.specs.MapPairs.{MapPairs}

-- the pairs with the old value at the key restored; keys of any type, in the order that cmp gives
abbrev pub put_back_at : {K : Type 0} → (K → K → Ordering) → K → Option PageHist
    → List (K × PageHist) → List (K × PageHist)
put_back_at cmp key None pairs = remove_entry (is_at (cmp key)) pairs
put_back_at cmp key (Some h) pairs = set_value (is_at (cmp key)) pairs h

-- the pairs with the old value at a key that is a number restored
abbrev pub put_back : ℕ → Option PageHist → MapPairs → MapPairs
put_back key known pairs = put_back_at nat_cmp key known pairs

-- the pairs with the old values of a list of notes restored, the last note first
abbrev pub undone : List UndoNote → MapPairs → MapPairs
undone [] pairs = pairs
undone (k ∷ ks) pairs = put_back (key_of_page k.page) k.hist (undone ks pairs)

-- the note of a change of a page: nothing was known of it before, or this was
abbrev pub note_of : PageId → Change → PageHist → UndoNote
note_of page New before = record { page = page; hist = None }
note_of page Known before = record { page = page; hist = Some before }

-- the note of a change of a page, or none if there was no change
abbrev pub noted : PageId → Option Change → PageHist → Option UndoNote
noted page None before = None
noted page (Some change) before = Some (note_of page change before)

-- the notes of a change, if there was one
abbrev pub notes_of : Option UndoNote → List UndoNote
notes_of None = []
notes_of (Some k) = k ∷ []

-- undoing these notes turns the current pairs into those before
abbrev pub Undoes : List UndoNote → MapPairs → MapPairs → Type 0
Undoes notes now before = undone notes now ≡ before

-- undoing these notes from the current pairs gives what undoing the earlier notes gave from the
-- earlier pairs
abbrev pub LeadsBack : List UndoNote → MapPairs → List UndoNote → MapPairs → Type 0
LeadsBack notes now noted_before before = undone notes now ≡ undone noted_before before

-- Undoing a change gives the old pairs.
use Rattle.std.proofs.Common.{◌≡◌, ℕ, Bool, true, false, cond, List, [], ◌∷◌, ◌++◌, sym, ap, refl, ◌∙◌, subst, Option, Some, None, add-one, drop-cons, drop, length, get_or, suc, filter, ◌+◌, ◌<◌, ◌≤◌}
use Rattle.std.specs.List.{AllByRecursion}
use Rattle.std.specs.Option.{option_map}
use Rattle.std.specs.Map.{remove_entry, set_value}
use Rattle.std.specs.BTreeMap.{is_at, insert_entry}
use Rattle.std.specs.BTreeMap.Range.{entries_between, range_contains}
use Rattle.std.specs.declared.ops.Bound.{Bound}
use Rattle.std.specs.Ordering.{is_eq, flip_args, nat_cmp}
use Rattle.std.specs.declared.cmp.Ordering.{Ordering}
use Rattle.std.specs.declared.cmp.Ordering.TheVariants.{Less, Equal, Greater}
use Rattle.std.proofs.lemmas.Cmp.{tied_itself}
use Rattle.std.proofs.lemmas.List.{drop_all}
use Rattle.warm_stamps.specs.declared.Stamp.{Stamp}
use Rattle.warm_stamps.specs.declared.PageId.{PageId}
use Rattle.warm_stamps.specs.Stamps.{stamp_cmp}
use Rattle.warm_stamps.specs.Distinct.{distinct}
use Rattle.warm_stamps.proofs.DistinctLemmas.{by_cases, flipped, distinct_rises}
use Rattle.warm_stamps.proofs.StampLemmas.{stamp_order, IsStrictOrder-flip}
use Rattle.warm_maps.specs.declared.hist.PageHist.{PageHist}
use Rattle.warm_maps.specs.PageHists.{latest_of, IsDescending}
use Rattle.warm_maps.proofs.LatestLemmas.{falling_first_two, IsFallingIfAny}
use Rattle.warm_maps.proofs.MapKeyOrder.{nat_order}
use Rattle.warm_maps.specs.MapKeys.{key_of_page, page_of_key, IsMapKey}
use Rattle.warm_maps.specs.MapPairs.{MapPairs, as_entries, AreKept}
use Rattle.warm_maps.specs.BucketMaps.{KeysAscend, found}
use Rattle.warm_maps.specs.Undo.{put_back, undone, notes_of}
use Rattle.warm_maps.specs.declared.bucket_map.UndoNote.{UndoNote}

abbrev pub AreKeys : MapPairs → Type 0
AreKeys pairs = AllByRecursion (λ e. IsMapKey e.0) pairs

abbrev pub AreAbove : ℕ → MapPairs → Type 0
AreAbove p pairs = AllByRecursion (λ e. nat_cmp p e.0 ≡ Less) pairs

-- ---- one change undone

removed : (p : ℕ) (h : PageHist) (pairs : MapPairs) → found p pairs ≡ None
    → remove_entry (is_at (nat_cmp p)) (insert_entry nat_cmp pairs p h) ≡ pairs
removed p h [] none = let own : nat_cmp p p ≡ Equal = tied_itself nat_order.total p in rw own refl
removed p h (e ∷ pairs) none = cases (removed p h pairs) (nat_cmp p e.0) refl
  where
    own : nat_cmp p p ≡ Equal
    own = tied_itself nat_order.total p

    cases : (found p pairs ≡ None
        → remove_entry (is_at (nat_cmp p)) (insert_entry nat_cmp pairs p h) ≡ pairs)
        → (o : Ordering) → nat_cmp p e.0 ≡ o
        → remove_entry (is_at (nat_cmp p)) (insert_entry nat_cmp (e ∷ pairs) p h) ≡ e ∷ pairs
    cases later Less pe = rw pe (rw own refl)
    cases later Equal pe = let no : Some e.1 ≡ None = sym (ap (λ o. cond (is_eq o) (Some e.1) (found p pairs)) pe) ∙ none in absurd (cc)
    cases later Greater pe =
        let rest : found p pairs ≡ None = sym (ap (λ o. cond (is_eq o) (Some e.1) (found p pairs)) pe) ∙ none in
        rw pe (rw pe (ap (λ t. e ∷ t) (later rest)))

pub no_later : (p : ℕ) (pairs : MapPairs) → AreAbove p pairs → found p pairs ≡ None
no_later p [] all = refl
no_later p (e ∷ pairs) all = let less : nat_cmp p e.0 ≡ Less = all.0 in rw less (no_later p pairs all.1)

pub below_all : (p q : ℕ) (pairs : MapPairs) → nat_cmp p q ≡ Less → AreAbove q pairs
    → AreAbove p pairs
below_all p q [] less all = tt
below_all p q (e ∷ pairs) less all = (nat_order.total.trans p q e.0 less all.0, below_all p q pairs less all.1)

same_value : (p : ℕ) (h g : PageHist) (pairs : MapPairs) → KeysAscend pairs → found p pairs ≡ Some g
    → set_value (is_at (nat_cmp p)) (insert_entry nat_cmp pairs p h) g ≡ pairs
same_value p h g [] rising is = let no : None ≡ Some g = is in absurd (cc)
same_value p h g (e ∷ pairs) rising is = cases (same_value p h g pairs rising.1) (nat_cmp p e.0) refl
  where
    cases : (found p pairs ≡ Some g
        → set_value (is_at (nat_cmp p)) (insert_entry nat_cmp pairs p h) g ≡ pairs) → (o : Ordering)
        → nat_cmp p e.0 ≡ o → set_value (is_at (nat_cmp p)) (insert_entry nat_cmp (e ∷ pairs) p h) g
        ≡ e ∷ pairs
    cases later Less pe =
        let rest : found p pairs ≡ Some g = sym (ap (λ o. cond (is_eq o) (Some e.1) (found p pairs)) pe) ∙ is in
        let no : None ≡ Some g = sym (no_later p pairs (below_all p e.0 pairs pe rising.0)) ∙ rest in
        absurd (cc)
    cases later Equal pe =
        let value : Some e.1 ≡ Some g = sym (ap (λ o. cond (is_eq o) (Some e.1) (found p pairs)) pe) ∙ is in
        let same : g ≡ e.1 = cc in
        rw pe (rw pe (ap (λ v. (e.0, v) ∷ pairs) same))
    cases later Greater pe =
        let rest : found p pairs ≡ Some g = sym (ap (λ o. cond (is_eq o) (Some e.1) (found p pairs)) pe) ∙ is in
        rw pe (rw pe (ap (λ t. e ∷ t) (later rest)))

pub put_back-insert : (p : ℕ) (h : PageHist) (pairs : MapPairs) → KeysAscend pairs
    → (known : Option PageHist) → known ≡ found p pairs
    → put_back p known (insert_entry nat_cmp pairs p h) ≡ pairs
put_back-insert p h pairs rising None is = removed p h pairs (sym is)
put_back-insert p h pairs rising (Some g) is = same_value p h g pairs rising (sym is)

-- ---- an entry more

above_insert : (q p : ℕ) (h : PageHist) (pairs : MapPairs) → nat_cmp q p ≡ Less → AreAbove q pairs
    → AreAbove q (insert_entry nat_cmp pairs p h)
above_insert q p h [] less all = (less, tt)
above_insert q p h (e ∷ pairs) less all = by_cases (nat_cmp p e.0) _
    (λ pe. rw pe (less, all))
    (λ pe. rw pe all)
    (λ pe. rw pe (all.0, above_insert q p h pairs less all.1))

pub rising_insert : (p : ℕ) (h : PageHist) (pairs : MapPairs) → KeysAscend pairs
    → KeysAscend (insert_entry nat_cmp pairs p h)
rising_insert p h [] rising = (tt, tt)
rising_insert p h (e ∷ pairs) rising = by_cases (nat_cmp p e.0) _
    (λ pe. rw pe ((pe, below_all p e.0 pairs pe rising.0), rising))
    (λ pe. rw pe rising)
    (λ pe. rw pe (above_insert e.0 p h pairs (flipped nat_cmp nat_order p e.0 Greater pe) rising.0, rising_insert p h pairs rising.1))

keys_insert : (p : ℕ) (h : PageHist) (pairs : MapPairs) → IsMapKey p → AreKeys pairs
    → AreKeys (insert_entry nat_cmp pairs p h)
keys_insert p h [] is all = (is, tt)
keys_insert p h (e ∷ pairs) is all = by_cases (nat_cmp p e.0) _
    (λ pe. rw pe (is, all))
    (λ pe. rw pe all)
    (λ pe. rw pe (all.0, keys_insert p h pairs is all.1))

falling_insert : (p : ℕ) (h : PageHist) (pairs : MapPairs) → IsDescending h
    → AllByRecursion (λ (e : ℕ × PageHist). IsDescending e.1) pairs
    → AllByRecursion (λ (e : ℕ × PageHist). IsDescending e.1) (insert_entry nat_cmp pairs p h)
falling_insert p h [] fall all = (fall, tt)
falling_insert p h (e ∷ pairs) fall all = by_cases (nat_cmp p e.0) _
    (λ pe. rw pe (fall, all))
    (λ pe. rw pe (fall, all.1))
    (λ pe. rw pe (all.0, falling_insert p h pairs fall all.1))

-- the two latest of stamps fall
falling_latest : (h : PageHist) (ss : List Stamp) → Some h ≡ latest_of ss → IsDescending h
falling_latest h ss is =
    let falls = flip_args stamp_cmp in
    subst IsFallingIfAny (sym is) (falling_first_two (distinct falls ss) (distinct_rises falls (IsStrictOrder-flip stamp_cmp stamp_order) ss))

pub length_entries : (pairs : MapPairs) → length (as_entries pairs) ≡ length pairs
length_entries [] = refl
length_entries (e ∷ pairs) = ap suc (length_entries pairs)

-- ---- an entry more is kept

-- what is put at a key keeps the invariant of pairs
pub kept_more : (old new : MapPairs) (p : ℕ) (h : PageHist) (ss : List Stamp) → IsMapKey p
    → AreKept old → Some h ≡ latest_of ss → new ≡ insert_entry nat_cmp old p h → AreKept new
kept_more old new p h ss is are latest is_new = subst AreKept (sym is_new) (record {
  keys_ascend = rising_insert p h old are.keys_ascend;
  are_keys = keys_insert p h old is are.are_keys;
  stamps_descend = falling_insert p h old (falling_latest h ss latest) are.stamps_descend;
})

-- ---- a list of changes undone

pub undone_last : (ks : List UndoNote) (k : UndoNote) (pairs : MapPairs)
    → undone (ks ++ k ∷ []) pairs ≡ undone ks (put_back (key_of_page k.page) k.hist pairs)
undone_last [] k pairs = refl
undone_last (x ∷ ks) k pairs = ap (put_back (key_of_page x.page) x.hist) (undone_last ks k pairs)

-- a change is undone before those that were notes_of earlier
pub undone_more : (ks : List UndoNote) (change : Option UndoNote) (k : UndoNote)
    (old new : MapPairs) → change ≡ Some k → undone (notes_of change) new ≡ old
    → undone (ks ++ k ∷ []) new ≡ undone ks old
undone_more ks change k old new is back = undone_last ks k new ∙ ap (undone ks) (ap (λ x. undone (notes_of x) new) (sym is) ∙ back)

-- what was put in at a key is found there
pub found_inserted : (p : ℕ) (h : PageHist) (pairs : MapPairs)
    → found p (insert_entry nat_cmp pairs p h) ≡ Some h
found_inserted p h [] = let own : nat_cmp p p ≡ Equal = tied_itself nat_order.total p in rw own refl
found_inserted p h (e ∷ pairs) = by_cases (nat_cmp p e.0) _
    (λ pe. let own : nat_cmp p p ≡ Equal = tied_itself nat_order.total p in rw pe (rw own refl))
    (λ pe. rw pe (rw pe refl))
    (λ pe. rw pe (rw pe (found_inserted p h pairs)))

-- ---- steps of a loop

pub left_more : {A : Type 0} (xs : List A) (i : ℕ) (x : A) → i < length xs → x ≡ get_or xs i x
    → drop i xs ≡ x ∷ drop (i + 1) xs
left_more xs i x lt is = rw add-one (drop-cons xs i x lt ∙ ap (λ t. t ∷ drop (suc i) xs) (sym is))

pub none_left : {A : Type 0} (xs : List A) (i : ℕ) → length xs ≤ i → drop i xs ≡ []
none_left xs i le = drop_all i xs le

pub as_it_is : {A : Type 0} (r : Option A) → r ≡ option_map (λ x. x) r
as_it_is None = refl
as_it_is (Some x) = refl

-- ---- the entries of a bucket

-- pairs of which those between two keys are the ones of chosen pages
pub between : (lo hi : Bound ℕ) (test : PageId → Bool) (pairs : MapPairs)
    → ((k : ℕ) → IsMapKey k → range_contains nat_cmp lo hi k ≡ test (page_of_key k)) → AreKeys pairs
    → as_entries (entries_between nat_cmp lo hi pairs)
    ≡ filter (λ x. test x.page) (as_entries pairs)
between lo hi test [] alike all = refl
between lo hi test (e ∷ pairs) alike all = cases (test (page_of_key e.0)) refl (between lo hi test pairs alike all.1)
  where
    cases : (b : Bool) → test (page_of_key e.0) ≡ b
        → as_entries (entries_between nat_cmp lo hi pairs)
        ≡ filter (λ x. test x.page) (as_entries pairs)
        → as_entries (entries_between nat_cmp lo hi (e ∷ pairs))
        ≡ filter (λ x. test x.page) (as_entries (e ∷ pairs))
    cases true is later =
        let in_range : range_contains nat_cmp lo hi e.0 ≡ true = alike e.0 all.0 ∙ is in
        rw (in_range, is) (ap (λ t. record { page = page_of_key e.0; hist = e.1 } ∷ t) later)
    cases false is later =
        let out : range_contains nat_cmp lo hi e.0 ≡ false = alike e.0 all.0 ∙ is in
        rw (out, is) later

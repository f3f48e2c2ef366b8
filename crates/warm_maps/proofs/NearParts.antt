-- What is done to one of the two maps of a bucket is done to the pairs of both.
use Rattle.std.proofs.Common.{◌≡◌, ℕ, Bool, true, false, cond, List, [], ◌∷◌, ◌++◌, sym, ap, refl, ◌∙◌, subst, arith, Option, Some, None, length, ◌+◌, ◌<◌, ◌≤◌, IfOk, OnErr}
use Rattle.std.specs.List.{AllByRecursion}
use Rattle.std.specs.Map.{remove_entry, set_value}
use Rattle.std.specs.BTreeMap.{is_at, insert_entry}
use Rattle.std.specs.BTreeMap.Range.{entries_between, range_contains}
use Rattle.std.specs.declared.ops.Bound.{Bound}
use Rattle.std.specs.declared.ops.Bound.TheVariants.{Unbounded}
use Rattle.std.specs.Ordering.{is_lt, nat_cmp}
use Rattle.std.specs.declared.result.Result.{Result}
use Rattle.std.specs.declared.result.Result.TheVariants.{Ok, Err}
use Rattle.std.proofs.lemmas.List.{length-append}
use Rattle.std.proofs.lemmas.List.Elements.{filter_map-append}
use Rattle.warm_stamps.specs.declared.PageId.{PageId}
use Rattle.warm_stamps.specs.Stamps.{page_cmp}
use Rattle.warm_stamps.proofs.DistinctLemmas.{by_cases}
use Rattle.warm_maps.specs.declared.hist.PageHist.{PageHist}
use Rattle.warm_maps.specs.declared.hist.Entry.{Entry}
use Rattle.warm_maps.specs.declared.bucket_map.BucketMap.{BucketMap}
use Rattle.warm_maps.specs.declared.bucket_map.UndoNote.{UndoNote}
use Rattle.warm_maps.specs.Cuts.{cut_pair, cut_at}
use Rattle.warm_maps.specs.PageHists.{latest_of, hist_stamps, known_stamps}
use Rattle.warm_maps.specs.MapKeys.{full_key, first_far_key, page_of_key}
use Rattle.warm_maps.specs.MapPairs.{MapPairs, as_entries}
use Rattle.warm_maps.specs.LaterPages.{after_page}
use Rattle.warm_maps.specs.NearPairs.{with_keys, widened, full, IsFar, IsMapOf}
use Rattle.warm_maps.specs.BucketMaps.{LiesIn, found, IsUndoNote, RecordsStamps}
use Rattle.warm_maps.specs.Undo.{put_back}
use Rattle.warm_maps.proofs.BucketLemmas.{find_after_lower, find_before_higher, insert_after_lower, insert_before_higher, set_after_lower, set_before_higher, remove_after_lower, remove_before_higher}
use Rattle.warm_maps.proofs.WithKeys.{length_with, all_with, cut_with, found_with, insert_with, set_with, remove_with}
use Rattle.warm_maps.proofs.NearKeys.{full_keeps, near_before_far, near_inside, far_inside}

abbrev pub AllKeys : (ℕ → Type 0) → MapPairs → Type 0
AllKeys P pairs = AllByRecursion (λ e. P e.0) pairs

pub all_so : (P Q : ℕ → Type 0) → ((k : ℕ) → P k → Q k) → (pairs : MapPairs) → AllKeys P pairs
    → AllKeys Q pairs
all_so P Q so [] all = tt
all_so P Q so (e ∷ pairs) all = (so e.0 all.0, all_so P Q so pairs all.1)

pub all_append : (P : ℕ → Type 0) (m n : MapPairs) → AllKeys P m → AllKeys P n → AllKeys P (m ++ n)
all_append P [] n all more = more
all_append P (e ∷ m) n all more = (all.0, all_append P m n all.1 more)

pub all_insert : (P : ℕ → Type 0) (p : ℕ) (h : PageHist) (m : MapPairs) → P p → AllKeys P m
    → AllKeys P (insert_entry nat_cmp m p h)
all_insert P p h [] is all = (is, tt)
all_insert P p h (e ∷ m) is all = by_cases (nat_cmp p e.0) _
    (λ pe. rw pe (is, all))
    (λ pe. rw pe all)
    (λ pe. rw pe (all.0, all_insert P p h m is all.1))

all_set : (P : ℕ → Type 0) (p : ℕ) (h : PageHist) (m : MapPairs) → AllKeys P m
    → AllKeys P (set_value (is_at (nat_cmp p)) m h)
all_set P p h [] all = tt
all_set P p h (e ∷ m) all = by_cases (nat_cmp p e.0) _
    (λ pe. rw pe (all.0, all_set P p h m all.1))
    (λ pe. rw pe all)
    (λ pe. rw pe (all.0, all_set P p h m all.1))

all_remove : (P : ℕ → Type 0) (p : ℕ) (m : MapPairs) → AllKeys P m
    → AllKeys P (remove_entry (is_at (nat_cmp p)) m)
all_remove P p [] all = tt
all_remove P p (e ∷ m) all = by_cases (nat_cmp p e.0) _
    (λ pe. rw pe (all.0, all_remove P p m all.1))
    (λ pe. rw pe all.1)
    (λ pe. rw pe (all.0, all_remove P p m all.1))

pub all_put_back : (P : ℕ → Type 0) (p : ℕ) (known : Option PageHist) (m : MapPairs) → AllKeys P m
    → AllKeys P (put_back p known m)
all_put_back P p None m all = all_remove P p m all
all_put_back P p (Some h) m all = all_set P p h m all

-- what is true of the keys of a map is true after it recorded at such a key, or nothing
pub all_recorded : {A E : Type 0} (r : Result A E) (note : A → Option UndoNote) (P : ℕ → Type 0)
    (page : PageId) (p : ℕ) (more : PageHist) (m n : MapPairs) → P p → AllKeys P m
    → IfOk r (λ change. RecordsStamps m page p more (note change) n) → OnErr r (n ≡ m) → AllKeys P n
all_recorded (Ok change) note P page p more m n is all ok err = subst (AllKeys P) (sym ok.2) (all_insert P p ok.0 m is all)
all_recorded (Err e) note P page p more m n is all ok err = subst (AllKeys P) (sym err) all

-- ---- the two maps are of one bucket

pub widened_inside : (b : ℕ) (near : MapPairs) → AllKeys (λ k. k < 18446744073709551616) near
    → AllKeys (LiesIn b) (widened b near)
widened_inside b near fits = all_with (full_key b) (λ k. k < 18446744073709551616) (LiesIn b) (near_inside b) near fits

pub full_inside : (b : ℕ) (m : BucketMap) → IsMapOf b m → AllKeys (LiesIn b) (full b m)
full_inside b m is = all_append (LiesIn b) (widened b m.near.entries) m.far.entries
    (widened_inside b m.near.entries is.near)
    (all_so (IsFar b) (LiesIn b) (far_inside b) m.far.entries is.far)

pub length_full : (b : ℕ) (m : BucketMap)
    → length (full b m) ≡ length m.near.entries + length m.far.entries
length_full b m = length-append (widened b m.near.entries) m.far.entries ∙ ap (λ (n : ℕ). n + length m.far.entries) (length_with (full_key b) m.near.entries)

pub cut_full : (b h : ℕ) (m n : BucketMap) → n.near.entries ≡ cut_at h m.near.entries
    → n.far.entries ≡ cut_at h m.far.entries → full b n ≡ cut_at h (full b m)
cut_full b h m n near far =
    ap (λ t. widened b t ++ n.far.entries) near
    ∙ ap (λ t. widened b (cut_at h m.near.entries) ++ t) far
    ∙ ap (λ t. t ++ cut_at h m.far.entries) (sym (cut_with (full_key b) h m.near.entries))
    ∙ sym (filter_map-append (cut_pair h) (widened b m.near.entries) m.far.entries)

-- the pairs at far keys come after a near key, and those at near keys before a far one
far_above : (b p : ℕ) (far : MapPairs) → full_key b p < first_far_key b → AllKeys (IsFar b) far
    → AllKeys (λ k. full_key b p < k) far
far_above b p far low all = all_so (IsFar b) (λ k. full_key b p < k) (λ k is. let from : first_far_key b ≤ k = is.0 in above (full_key b p) (first_far_key b) k low from) far all
  where
    above : (x y z : ℕ) → x < y → y ≤ z → x < z
    above x y z lt le = omega arith

near_below : (b p : ℕ) (near : MapPairs) → IsFar b p → AllKeys (λ k. k < 18446744073709551616) near
    → AllKeys (λ k. k < p) (widened b near)
near_below b p near far all = all_with (full_key b) (λ k. k < 18446744073709551616) (λ k. k < p) (λ k fits. below (full_key b k) (first_far_key b) p (near_before_far b k fits) far.0) near all
  where
    below : (x y z : ℕ) → x < y → y ≤ z → x < z
    below x y z lt le = omega arith

-- ---- a near page

module _ (b p : ℕ) (near far : MapPairs) (low : full_key b p < first_far_key b)
    (is : AllKeys (IsFar b) far) where
  pub find_near : found (full_key b p) (widened b near ++ far) ≡ found p near
  find_near = find_before_higher (full_key b p) (widened b near) far (far_above b p far low is) ∙ found_with (full_key b) (full_keeps b) p near

  pub insert_near : (h : PageHist)
      → insert_entry nat_cmp (widened b near ++ far) (full_key b p) h
      ≡ widened b (insert_entry nat_cmp near p h) ++ far
  insert_near h = insert_before_higher (full_key b p) h (widened b near) far (far_above b p far low is) ∙ ap (λ t. t ++ far) (insert_with (full_key b) (full_keeps b) p h near)

  pub put_back_near : (known : Option PageHist)
      → put_back (full_key b p) known (widened b near ++ far)
      ≡ widened b (put_back p known near) ++ far
  put_back_near None = remove_before_higher (full_key b p) (widened b near) far (far_above b p far low is) ∙ ap (λ t. t ++ far) (remove_with (full_key b) (full_keeps b) p near)
  put_back_near (Some h) = set_before_higher (full_key b p) h (widened b near) far (far_above b p far low is) ∙ ap (λ t. t ++ far) (set_with (full_key b) (full_keeps b) p h near)

  note_near : (page : PageId) (h : PageHist) (note : Option UndoNote) (new : MapPairs)
      → IsUndoNote note page p h near new
      → IsUndoNote note page (full_key b p) h (widened b near ++ far) (widened b new ++ far)
  note_near page h None new same = ap (λ t. widened b t ++ far) same
  note_near page h (Some k) new known = (known.0, known.1 ∙ sym find_near, known.2)

  pub records_near : (page : PageId) (more : PageHist) (note : Option UndoNote) (new : MapPairs)
      → RecordsStamps near page p more note new
      → RecordsStamps (widened b near ++ far) page (full_key b p) more note (widened b new ++ far)
  records_near page more note new records = (
    records.0,
    records.1 ∙ ap (λ k. latest_of (hist_stamps more ++ known_stamps k)) (sym find_near),
    ap (λ t. widened b t ++ far) records.2 ∙ sym (insert_near records.0),
    note_near page records.0 note new records.3,
  )

-- ---- a far page

module _ (b p : ℕ) (near far : MapPairs) (far_page : IsFar b p)
    (fits : AllKeys (λ k. k < 18446744073709551616) near) where
  pub find_far : found p (widened b near ++ far) ≡ found p far
  find_far = find_after_lower p (widened b near) far (near_below b p near far_page fits)

  pub insert_far : (h : PageHist)
      → insert_entry nat_cmp (widened b near ++ far) p h
      ≡ widened b near ++ insert_entry nat_cmp far p h
  insert_far h = insert_after_lower p h (widened b near) far (near_below b p near far_page fits)

  pub put_back_far : (known : Option PageHist)
      → put_back p known (widened b near ++ far) ≡ widened b near ++ put_back p known far
  put_back_far None = remove_after_lower p (widened b near) far (near_below b p near far_page fits)
  put_back_far (Some h) = set_after_lower p h (widened b near) far (near_below b p near far_page fits)

  note_far : (page : PageId) (h : PageHist) (note : Option UndoNote) (new : MapPairs)
      → IsUndoNote note page p h far new
      → IsUndoNote note page p h (widened b near ++ far) (widened b near ++ new)
  note_far page h None new same = ap (λ t. widened b near ++ t) same
  note_far page h (Some k) new known = (known.0, known.1 ∙ sym find_far, known.2)

  pub records_far : (page : PageId) (more : PageHist) (note : Option UndoNote) (new : MapPairs)
      → RecordsStamps far page p more note new
      → RecordsStamps (widened b near ++ far) page p more note (widened b near ++ new)
  records_far page more note new records = (
    records.0,
    records.1 ∙ ap (λ k. latest_of (hist_stamps more ++ known_stamps k)) (sym find_far),
    ap (λ t. widened b near ++ t) records.2 ∙ sym (insert_far records.0),
    note_far page records.0 note new records.3,
  )

-- ---- the pages after a page

-- the pairs of a range of near keys, as entries; f widens the keys
pub range_after : (f : ℕ → ℕ) (P : ℕ → Type 0) (lo : Bound ℕ) (last : PageId)
    → ((k : ℕ) → P k → range_contains nat_cmp lo Unbounded k
    ≡ is_lt (page_cmp last (page_of_key (f k)))) → (pairs : MapPairs) → AllKeys P pairs
    → as_entries (with_keys f (entries_between nat_cmp lo Unbounded pairs))
    ≡ after_page last (as_entries (with_keys f pairs))
range_after f P lo last alike [] all = refl
range_after f P lo last alike (e ∷ pairs) all = cases (is_lt (page_cmp last (page_of_key (f e.0)))) refl (range_after f P lo last alike pairs all.1)
  where
    cases : (b : Bool) → is_lt (page_cmp last (page_of_key (f e.0))) ≡ b
        → as_entries (with_keys f (entries_between nat_cmp lo Unbounded pairs))
        ≡ after_page last (as_entries (with_keys f pairs))
        → as_entries (with_keys f (entries_between nat_cmp lo Unbounded (e ∷ pairs)))
        ≡ after_page last (as_entries (with_keys f (e ∷ pairs)))
    cases true is later =
        let in_range : range_contains nat_cmp lo Unbounded e.0 ≡ true = alike e.0 all.0 ∙ is in
        rw (in_range, is) (ap (λ t. record { page = page_of_key (f e.0); hist = e.1 } ∷ t) later)
    cases false is later =
        let out : range_contains nat_cmp lo Unbounded e.0 ≡ false = alike e.0 all.0 ∙ is in
        rw (out, is) later

-- the same for keys that are full
pub range_far_after : (P : ℕ → Type 0) (lo : Bound ℕ) (last : PageId)
    → ((k : ℕ) → P k → range_contains nat_cmp lo Unbounded k
    ≡ is_lt (page_cmp last (page_of_key k))) → (pairs : MapPairs) → AllKeys P pairs
    → as_entries (entries_between nat_cmp lo Unbounded pairs) ≡ after_page last (as_entries pairs)
range_far_after P lo last alike [] all = refl
range_far_after P lo last alike (e ∷ pairs) all = cases (is_lt (page_cmp last (page_of_key e.0))) refl (range_far_after P lo last alike pairs all.1)
  where
    cases : (b : Bool) → is_lt (page_cmp last (page_of_key e.0)) ≡ b
        → as_entries (entries_between nat_cmp lo Unbounded pairs)
        ≡ after_page last (as_entries pairs)
        → as_entries (entries_between nat_cmp lo Unbounded (e ∷ pairs))
        ≡ after_page last (as_entries (e ∷ pairs))
    cases true is later =
        let in_range : range_contains nat_cmp lo Unbounded e.0 ≡ true = alike e.0 all.0 ∙ is in
        rw (in_range, is) (ap (λ t. record { page = page_of_key e.0; hist = e.1 } ∷ t) later)
    cases false is later =
        let out : range_contains nat_cmp lo Unbounded e.0 ≡ false = alike e.0 all.0 ∙ is in
        rw (out, is) later

pub all_after : (P : ℕ → Type 0) (last : PageId)
    → ((k : ℕ) → P k → is_lt (page_cmp last (page_of_key k)) ≡ true) → (pairs : MapPairs)
    → AllKeys P pairs → as_entries pairs ≡ after_page last (as_entries pairs)
all_after P last so [] all = refl
all_after P last so (e ∷ pairs) all = let is : is_lt (page_cmp last (page_of_key e.0)) ≡ true = so e.0 all.0 in rw is (ap (λ t. record { page = page_of_key e.0; hist = e.1 } ∷ t) (all_after P last so pairs all.1))

pub entries_append : (m n : MapPairs) → as_entries (m ++ n) ≡ as_entries m ++ as_entries n
entries_append [] n = refl
entries_append (e ∷ m) n = ap (λ t. record { page = page_of_key e.0; hist = e.1 } ∷ t) (entries_append m n)

after_append : (last : PageId) (xs ys : List Entry)
    → after_page last (xs ++ ys) ≡ after_page last xs ++ after_page last ys
after_append last [] ys = refl
after_append last (x ∷ xs) ys = cases (is_lt (page_cmp last x.page)) (after_append last xs ys)
  where
    cases : (b : Bool) → after_page last (xs ++ ys) ≡ after_page last xs ++ after_page last ys
        → cond b (x ∷ after_page last (xs ++ ys)) (after_page last (xs ++ ys))
        ≡ cond b (x ∷ after_page last xs) (after_page last xs) ++ after_page last ys
    cases true later = ap (λ t. x ∷ t) later
    cases false later = later

-- those after a page in each of the two maps
pub after_both : (last : PageId) (near far near_left far_left : MapPairs)
    → as_entries near_left ≡ after_page last (as_entries near)
    → as_entries far_left ≡ after_page last (as_entries far)
    → as_entries (near_left ++ far_left) ≡ after_page last (as_entries (near ++ far))
after_both last near far near_left far_left is_near is_far =
    entries_append near_left far_left
    ∙ ap (λ t. t ++ as_entries far_left) is_near
    ∙ ap (λ t. after_page last (as_entries near) ++ t) is_far
    ∙ sym (after_append last (as_entries near) (as_entries far))
    ∙ ap (after_page last) (sym (entries_append near far))

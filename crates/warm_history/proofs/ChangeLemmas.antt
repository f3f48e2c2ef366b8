-- Which buckets change as a history grows.
use Rattle.std.proofs.Common.{◌≡◌, ◌≢◌, inl, inr, ℕ, ◌<◌, ◌≤◌, ◌+◌, ◌/◌, ◌^◌, Bool, true, false, cond, List, ◌++◌, max, Option, None, refl, sym, ap, subst, ◌∙◌, arith, append_assoc}
use Rattle.std.specs.Prelude.{◌==◌, bit_or}
use Rattle.std.specs.Int.{bit_at}
use Rattle.std.specs.Ordering.{is_eq, on}
use Rattle.std.proofs.lemmas.Bool.{cases_eq, eq-eqb, eqb-true}
use Rattle.std.proofs.lemmas.Nat.Bits.{bit_at-lt, bit_at-zero, bit_at_or}
use Rattle.std.proofs.Math.Nat.{le_refl}
use Rattle.warm_stamps.specs.declared.PageId.{PageId}
use Rattle.warm_stamps.specs.declared.Reference.{Reference}
use Rattle.warm_stamps.specs.Buckets.{page_bucket}
use Rattle.warm_stamps.specs.Stamps.{page_cmp}
use Rattle.warm_stamps.proofs.BucketLemmas.{with_same, with_other}
use Rattle.warm_stamps.proofs.DistinctLemmas.{is_equal, rising_filter}
use Rattle.warm_stamps.proofs.StampLemmas.{page_order}
use Rattle.warm_maps.specs.declared.hist.PageHist.{PageHist}
use Rattle.warm_maps.specs.declared.hist.Entry.{Entry}
use Rattle.warm_history.specs.Carried.{bucket_entries}
use Rattle.warm_history.specs.Changes.{SameInBucket, MarksChanged}
use Rattle.warm_history.specs.Histories.{history_of_entries_at, NoneOlder, entries_of}
use Rattle.warm_history.specs.Histories as view
use Rattle.warm_history.specs.KeptEntries.{kept_entries}
use Rattle.warm_history.specs.ListHistories.{list_hist, list_history, references_of_entry, list_references_of, known_stamps, IsListHistory, PagesAscend}
use Rattle.warm_history.specs.Losses.{raised, MarksLosing}
use Rattle.warm_maps.specs.MapKeys.{first_key, page_of_key, IsMapKey}
use Rattle.warm_history.specs.ReferenceSets.{references_from}
use Rattle.warm_maps.specs.MapPairs.{MapPairs, AreKept}
use Rattle.warm_history.specs.maps.KeptPairs.{kept, references_at, TakesRecent, TakesStamps}
use Rattle.warm_maps.specs.BucketMaps.{found}
use Rattle.warm_history.proofs.KeptLemmas.{entries_recent, history-kept, kept-append, kept_within}
use Rattle.warm_history.proofs.ListHistoryLemmas.{get, joined, same_gets, get-history, hist-append, hist-refs, IsHistory-history}
use Rattle.warm_history.proofs.ListJoinLemmas.{hist_repeat, history_of_own_references}
use Rattle.warm_history.proofs.OrderLemmas.{get-filter}
use Rattle.warm_history.proofs.EntryLemmas.{hist_entry}
use Rattle.warm_maps.proofs.LatestLemmas.{latest_of_swap}
use Rattle.warm_maps.proofs.MapKeyOrder.{from_first, below_next}
use Rattle.warm_history.proofs.HorizonLemmas.{bucket_left, none_left_older, raised_bucket}
use Rattle.warm_history.proofs.maps.KeptPairLemmas.{IsHistory-kept, find-kept}

-- ---- a bucket says all of its pages

pub get-bucket : (bucket : ℕ) (es : List Entry) (p : PageId) → page_bucket p ≡ bucket
    → get (bucket_entries bucket es) p ≡ get es p
get-bucket bucket es p is =
    get-filter (λ q. page_bucket q == bucket) es p
    ∙ ap (λ b. cond b (get es p) None) (eq-eqb (page_bucket p) bucket is)

-- lists that agree on each page of a bucket have the same entries in it
pub same_bucket : (bucket : ℕ) (h g : List Entry) → PagesAscend h → PagesAscend g
    → ((p : PageId) → page_bucket p ≡ bucket → get h p ≡ get g p)
    → bucket_entries bucket h ≡ bucket_entries bucket g
same_bucket bucket h g rise_h rise_g alike =
    let by_page = on (λ (e : Entry). e.page) page_cmp in
    let is_in : Entry → Bool = λ e. page_bucket e.page == bucket in
    same_gets (bucket_entries bucket h) (bucket_entries bucket g) (rising_filter by_page is_in h rise_h) (rising_filter by_page is_in g rise_g) (λ p.
    get-filter (λ q. page_bucket q == bucket) h p
    ∙ cases p (page_bucket p == bucket) refl
    ∙ sym (get-filter (λ q. page_bucket q == bucket) g p))
  where
    cases : (p : PageId) (b : Bool) → (page_bucket p == bucket) ≡ b
        → cond (page_bucket p == bucket) (get h p) None
        ≡ cond (page_bucket p == bucket) (get g p) None
    cases p true there = ap (λ x. cond (page_bucket p == bucket) x None) (alike p (eqb-true (page_bucket p) bucket there))
    cases p false away = rw away refl

-- ---- how a history grows

-- the new history says of each page all that the old one says
abbrev pub Grows : List Entry → List Entry → Type 0
Grows old new = (p : PageId) → joined (get old p) (get new p) ≡ get new p

pub grows_same : (h : List Entry) → IsListHistory h → Grows h h
grows_same h whole p =
    let own = hist-refs h whole p in
    ap (λ x. joined x (get h p)) (sym own)
    ∙ ap (joined (list_hist (list_references_of h) p)) (sym own)
    ∙ sym (hist-append (list_references_of h) (list_references_of h) p)
    ∙ hist_repeat (list_references_of h) p
    ∙ own

-- a history that has grown grows on as references are taken in
pub grows_more : (h mid new : List Entry) (S : List Reference) → IsListHistory h → IsListHistory mid
    → Grows h mid → new ≡ list_history (list_references_of mid ++ S) → Grows h new
grows_more h mid new S whole_h whole_mid grows is p =
    let said : get new p ≡ list_hist (list_references_of mid ++ S) p = ap (λ es. get es p) is ∙ get-history (list_references_of mid ++ S) p in
    let both : list_hist (list_references_of h ++ list_references_of mid) p ≡ list_hist (list_references_of mid) p =
    hist-append (list_references_of h) (list_references_of mid) p
    ∙ ap (λ x. joined x (list_hist (list_references_of mid) p)) (hist-refs h whole_h p)
    ∙ ap (joined (get h p)) (hist-refs mid whole_mid p)
    ∙ grows p
    ∙ sym (hist-refs mid whole_mid p) in
    ap (λ x. joined x (get new p)) (sym (hist-refs h whole_h p))
    ∙ ap (joined (list_hist (list_references_of h) p)) said
    ∙ sym (hist-append (list_references_of h) (list_references_of mid ++ S) p)
    ∙ ap (λ T. list_hist T p) (sym (append_assoc (list_references_of h) (list_references_of mid) S))
    ∙ hist-append (list_references_of h ++ list_references_of mid) S p
    ∙ ap (λ x. joined x (list_hist S p)) both
    ∙ sym (hist-append (list_references_of mid) S p)
    ∙ sym said

-- what lies between two that are equal is equal to them
between : (x y : Option PageHist) → joined x y ≡ y → joined y x ≡ x → y ≡ x
between x y up down = sym up ∙ latest_of_swap (known_stamps x) (known_stamps y) ∙ down

-- if a bucket is unchanged in the end, it was unchanged at each step
stays_between : (bucket : ℕ) (h mid new : List Entry) → PagesAscend h → PagesAscend mid
    → Grows h mid → Grows mid new → SameInBucket bucket h new → SameInBucket bucket h mid
stays_between bucket h mid new rise_h rise_mid up down same = same_bucket bucket mid h rise_mid rise_h (λ p there.
    let ends : get new p ≡ get h p = sym (get-bucket bucket new p there) ∙ ap (λ es. get es p) same ∙ get-bucket bucket h p there in
    between (get h p) (get mid p) (up p) (ap (joined (get mid p)) (sym ends) ∙ down p ∙ ends))

-- ---- which buckets change

pub marks_none : (es : List Entry) → MarksChanged es es 0
marks_none es bucket low = let clear = bit_at-zero bucket in ((λ one. absurd (omega (arith, one, clear))), λ none. refl)

-- the set that a function makes for what is unchanged
pub marks_empty : (es : List Entry) (buckets : ℕ) → buckets ≡ 0 → MarksChanged es es buckets
marks_empty es buckets none = subst (MarksChanged es es) (sym none) (marks_none es)

-- those that change in a first step, and those that change in the next
pub marks_more : (h mid new : List Entry) (first next : ℕ) → PagesAscend h → PagesAscend mid
    → Grows h mid → Grows mid new → MarksChanged h mid first → MarksChanged mid new next
    → MarksChanged h new (bit_or first next)
marks_more h mid new first next rise_h rise_mid up down marks_first marks_next bucket low =
    let is = bit_at_or first next bucket in
    let first_lt = bit_at-lt first bucket in
    let next_lt = bit_at-lt next bucket in (
      (λ one same.
          let middle = stays_between bucket h mid new rise_h rise_mid up down same in
          elim (cases_eq (bit_at first bucket) 1) [
            | inl was ↦ (marks_first bucket low).0 was middle
            | inr other ↦ (marks_next bucket low).0 (omega (arith, is, one, other, first_lt, next_lt)) (same ∙ sym middle)
          ]),
      λ none. (marks_next bucket low).1 (omega (arith, is, none)) ∙ (marks_first bucket low).1 (omega (arith, is, none)),
    )

-- a set that has no bucket is that of a history that says what it said
pub nothing_changed : (h g : List Entry) (changed : ℕ) → PagesAscend h → PagesAscend g
    → MarksChanged h g changed → changed ≡ 0 → g ≡ h
nothing_changed h g changed rise_h rise_g marks none = same_gets g h rise_g rise_h (λ p.
    let bucket = page_bucket p in
    let low : page_bucket p < 64 = omega arith in
    let clear : bit_at changed bucket ≡ 0 = ap (λ (n : ℕ). bit_at n bucket) none ∙ bit_at-zero bucket in
    sym (get-bucket bucket g p refl) ∙ ap (λ es. get es p) ((marks bucket low).1 clear) ∙ get-bucket bucket h p refl)

-- ---- the bucket of a key

-- pages of two buckets differ
apart : (q p : PageId) → page_bucket q ≢ page_bucket p → is_eq (page_cmp q p) ≡ false
apart q p buckets = cases (is_eq (page_cmp q p)) refl
  where
    cases : (c : Bool) → is_eq (page_cmp q p) ≡ c → c ≡ false
    cases true here = absurd (buckets (ap page_bucket (page_order.same q p (is_equal (page_cmp q p) here))))
    cases false other = refl

-- an entry that is taken in changes no other bucket than that of its page
pub others_stay : (old new : List Entry) (e : Entry) (bucket : ℕ) → IsListHistory old
    → PagesAscend new → new ≡ list_history (list_references_of old ++ references_of_entry e)
    → page_bucket e.page ≢ bucket → SameInBucket bucket old new
others_stay old new e bucket whole rise is away = same_bucket bucket new old rise whole.pages_ascend (λ p there.
    ap (λ es. get es p) is
    ∙ get-history (list_references_of old ++ references_of_entry e) p
    ∙ hist_entry (list_references_of old) e p
    ∙ rw (apart e.page p (λ same. away (same ∙ there))) (hist-refs old whole p))

-- a key lies in the bucket of its page
pub lies_in : (bucket key : ℕ) → first_key bucket ≤ key → key < first_key (bucket + 1)
    → bucket ≡ key / 1208925819614629174706176
lies_in bucket key from to = omega arith

pub own_bucket : (key : ℕ) → IsMapKey key
    → page_bucket (page_of_key key) ≡ key / 1208925819614629174706176
own_bucket key is = lies_in (page_bucket (page_of_key key)) key (from_first key is) (below_next key is)

-- a single bucket, as code makes its set
pub in_it : (i : ℕ) → bit_at (bit_or 0 (2 ^ i)) i ≡ 1
in_it i = with_same 0 i

pub not_in_it : (i b : ℕ) → b ≢ i → bit_at (bit_or 0 (2 ^ i)) b ≡ 0
not_in_it i b other = with_other 0 i b other ∙ bit_at-zero b

-- if something else is found at a key, the bucket in which the key lies changes
pub changes_at : (old new : MapPairs) (key : ℕ) → IsMapKey key → AreKept old → AreKept new
    → found key new ≢ found key old
    → bucket_entries (page_bucket (page_of_key key)) (kept new)
    ≢ bucket_entries (page_bucket (page_of_key key)) (kept old)
changes_at old new key is are_old are_new differs same =
    let p = page_of_key key in
    differs (
    find-kept key new is are_new
    ∙ sym (get-bucket (page_bucket p) (kept new) p refl)
    ∙ ap (λ es. get es p) same
    ∙ get-bucket (page_bucket p) (kept old) p refl
    ∙ sym (find-kept key old is are_old))

-- and no other does
pub marks_at : (old new : MapPairs) (key : ℕ) (more : PageHist) → IsMapKey key → AreKept old
    → AreKept new → TakesStamps old key more new → found key new ≢ found key old
    → MarksChanged (kept old) (kept new) (bit_or 0 (2 ^ page_bucket (page_of_key key)))
marks_at old new key more is are_old are_new takes differs bucket low =
    let i = page_bucket (page_of_key key) in
    let set = bit_or 0 (2 ^ i) in
    elim (cases_eq bucket i) [
      | inl here ↦ (
          let bit : bit_at set bucket ≡ 1 = ap (λ (b : ℕ). bit_at set b) here ∙ in_it i in (
            (λ one. subst (λ b. bucket_entries b (kept new) ≢ bucket_entries b (kept old)) (sym here) (changes_at old new key is are_old are_new differs)),
            λ none. absurd (omega (arith, bit, none)),
          )
          )
      | inr away ↦ (
          let bit : bit_at set bucket ≡ 0 = not_in_it i bucket away in (
            (λ one. absurd (omega (arith, bit, one))),
            λ none. others_stay (kept old) (kept new) (record { page = page_of_key key; hist = more }) bucket (IsHistory-kept old are_old) (IsHistory-kept new are_new).pages_ascend takes (λ same. away (sym same)),
          )
          )
    ]

-- one page more of those that are taken in one after the other
pub takes_more : (m p : ℕ) (more : PageHist) (first old new : MapPairs) (before next : ℕ)
    → AreKept first → AreKept old → TakesRecent m old p more new → Grows (kept first) (kept old)
    → MarksChanged (kept first) (kept old) before → MarksChanged (kept old) (kept new) next
    → Grows (kept first) (kept new) × MarksChanged (kept first) (kept new) (bit_or before next)
takes_more m p more first old new before next are_first are_old takes grows marks_before marks_next =
    let S = references_from m (references_at p more) in
    let whole_first = IsHistory-kept first are_first in
    let whole_old = IsHistory-kept old are_old in
    let step = grows_more (kept old) (kept old) (kept new) S whole_old whole_old (grows_same (kept old) whole_old) takes in (
      grows_more (kept first) (kept old) (kept new) S whole_first whole_old grows takes,
      marks_more (kept first) (kept old) (kept new) before next whole_first.pages_ascend whole_old.pages_ascend grows step marks_before marks_next,
    )

-- ---- what is taken in, and then cut

-- if a cut leaves a bucket as it is, nothing in it says less of its pages
hist_left : (m bucket : ℕ) (es : List Entry) (p : PageId) → IsListHistory es
    → page_bucket p ≡ bucket → kept_entries m (bucket_entries bucket es) ≡ bucket_entries bucket es
    → list_hist (references_from m (list_references_of es)) p ≡ list_hist (list_references_of es) p
hist_left m bucket es p whole there left =
    sym (get-history (references_from m (list_references_of es)) p)
    ∙ ap (λ t. get t p) (sym (history-kept m (list_references_of es)) ∙ ap (kept_entries m) (history_of_own_references es whole))
    ∙ sym (get-bucket bucket (kept_entries m es) p there)
    ∙ ap (λ t. get t p) (sym (bucket_left m bucket es) ∙ left)
    ∙ get-bucket bucket es p there
    ∙ sym (hist-refs es whole p)

-- and it leaves it unchanged after more is taken in that isn't older
left_with_more : (m bucket : ℕ) (es mid : List Entry) (rs : List Reference) → IsListHistory es
    → mid ≡ list_history (list_references_of es ++ references_from m rs)
    → kept_entries m (bucket_entries bucket es) ≡ bucket_entries bucket es
    → bucket_entries bucket (kept_entries m mid) ≡ bucket_entries bucket mid
left_with_more m bucket es mid rs whole is left =
    let S = list_references_of es ++ references_from m rs in
    let cut : kept_entries m mid ≡ list_history (references_from m S) = ap (kept_entries m) is ∙ history-kept m S in
    same_bucket bucket (kept_entries m mid) mid (subst PagesAscend (sym cut) (IsHistory-history (references_from m S)).pages_ascend) (subst PagesAscend (sym is) (IsHistory-history S).pages_ascend) (λ p there.
    ap (λ t. get t p) cut
    ∙ get-history (references_from m S) p
    ∙ ap (λ T. list_hist T p) (kept-append m (list_references_of es) (references_from m rs) ∙ ap (λ T. references_from m (list_references_of es) ++ T) (kept_within m m (le_refl m) rs))
    ∙ hist-append (references_from m (list_references_of es)) (references_from m rs) p
    ∙ ap (λ x. joined x (list_hist (references_from m rs) p)) (hist_left m bucket es p whole there left)
    ∙ sym (hist-append (list_references_of es) (references_from m rs) p)
    ∙ sym (get-history S p)
    ∙ ap (λ t. get t p) (sym is))

-- the buckets that change as what isn't older than a time is taken in, and those that lose
-- something at it, change as both is done
pub marks_cut : (a b m k : ℕ) (es mid new : List Entry) (rs : List Reference) (changed lost : ℕ)
    → view.IsHistory (history_of_entries_at a es) → m ≡ max a b → k ≡ max a m
    → mid ≡ list_history (list_references_of es ++ references_from m rs) → new ≡ kept_entries k mid
    → MarksChanged es mid changed → MarksLosing b (history_of_entries_at a es) lost
    → MarksChanged es new (bit_or changed lost)
marks_cut a b m k es mid new rs changed lost whole later latest is cut marks loses bucket low =
    let own = bucket_entries bucket es in
    let or_is = bit_at_or changed lost bucket in
    let changed_lt = bit_at-lt changed bucket in
    let lost_lt = bit_at-lt lost bucket in
    let same_time : k ≡ m = omega arith in
    let listed : IsListHistory es = record { pages_ascend = whole.pages_ascend; stamps_descend = whole.stamps_descend } in
    let now : bucket_entries bucket new ≡ kept_entries m (bucket_entries bucket mid) = ap (bucket_entries bucket) (cut ∙ ap (λ j. kept_entries j mid) same_time) ∙ sym (bucket_left m bucket mid) in
    let raised_to : kept_entries m own ≡ bucket_entries bucket (entries_of (raised b (history_of_entries_at a es))) = ap (λ j. kept_entries j own) later ∙ raised_bucket (history_of_entries_at a es) b bucket whole in (
      (λ one same.
          let left : kept_entries m own ≡ own = entries_recent m own (subst (NoneOlder m) (sym now ∙ same) (none_left_older m (bucket_entries bucket mid))) in
          elim (cases_eq (bit_at changed bucket) 1) [
            | inl was ↦ (marks bucket low).0 was (sym (left_with_more m bucket es mid rs listed is left) ∙ sym (bucket_left m bucket mid) ∙ sym now ∙ same)
            | inr other ↦ (loses bucket low).0 (omega (arith, or_is, one, other, changed_lt, lost_lt)) (sym raised_to ∙ left)
          ]),
      λ none. now ∙ ap (kept_entries m) ((marks bucket low).1 (omega (arith, or_is, none))) ∙ raised_to ∙ (loses bucket low).1 (omega (arith, or_is, none)),
    )

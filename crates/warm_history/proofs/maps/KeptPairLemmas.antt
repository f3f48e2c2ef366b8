-- The history that pairs keep.
use Rattle.std.proofs.Common.{◌≡◌, ℕ, Bool, true, false, cond, List, [], ◌∷◌, ◌++◌, sym, ap, refl, ◌∙◌, Option, Some, None, length, filter}
use Rattle.std.specs.List.{AllByRecursion}
use Rattle.std.specs.List.Sorted.{IsPermutation}
use Rattle.std.specs.BTreeMap.{insert_entry}
use Rattle.warm_stamps.specs.Buckets.{page_bucket}
use Rattle.std.specs.Ordering.{is_eq, on, flip_args, nat_cmp}
use Rattle.std.specs.declared.cmp.Ordering.TheVariants.{Less}
use Rattle.std.proofs.lemmas.List.{append-nil}
use Rattle.std.proofs.lemmas.List.Sorted.{length_permutation}
use Rattle.warm_stamps.specs.declared.PageId.{PageId}
use Rattle.warm_stamps.specs.Stamps.{stamp_cmp, page_cmp}
use Rattle.warm_stamps.specs.Distinct.{distinct}
use Rattle.warm_stamps.proofs.DistinctLemmas.{is_equal, by_cases, rising_filter}
use Rattle.warm_stamps.proofs.StampLemmas.{page_order}
use Rattle.warm_maps.specs.declared.hist.PageHist.{PageHist}
use Rattle.warm_maps.specs.declared.hist.Entry.{Entry}
use Rattle.warm_history.specs.ListHistories.{first_two, list_hist, latest_of, hist_stamps, known_stamps, references_of_entry, list_references_of, list_history, IsListHistory, IsDescending, PagesAscend}
use Rattle.warm_history.proofs.ListHistoryLemmas.{get, told, told-append, told_entry, told_refs, same_gets}
use Rattle.warm_history.proofs.ListJoinLemmas.{history_of_own_references, history_alike}
use Rattle.warm_history.proofs.EntryLemmas.{takes_in}
use Rattle.warm_maps.proofs.MapKeyOrder.{nat_order, same_key, rising_pages}
use Rattle.warm_history.proofs.OrderLemmas.{both_same, either_first, get-in_order, in_order_rises, IsHistory-in_order, PagesDiffer, permuted_in_order, get-filter}
use Rattle.warm_stamps.specs.declared.Reference.{Reference}
use Rattle.warm_maps.specs.MapKeys.{page_of_key, IsMapKey}
use Rattle.warm_maps.specs.MapPairs.{MapPairs, as_entries, AreKept}
use Rattle.warm_history.specs.maps.KeptPairs.{kept, TakesStamps}
use Rattle.warm_maps.specs.BucketMaps.{KeysAscend, RecordsStamps, found}
use Rattle.warm_maps.specs.declared.bucket_map.UndoNote.{UndoNote}
use Rattle.warm_maps.proofs.MapPairLemmas.{AreAbove, AreKeys, length_entries, no_later}

-- what is found at a key is what the entries say of its page
pub find-get : (key : ℕ) (pairs : MapPairs) → IsMapKey key → AreKeys pairs
    → found key pairs ≡ get (as_entries pairs) (page_of_key key)
find-get key [] is all = refl
find-get key (e ∷ pairs) is all =
    ap (λ t. cond t (Some e.1) (found key pairs)) (same_key key e.0 is all.0)
    ∙ ap (cond (is_eq (page_cmp (page_of_key e.0) (page_of_key key))) (Some e.1)) (find-get key pairs is all.1)

again : {A : Type 0} (b : Bool) (x y z : A) → cond b x (cond b y z) ≡ cond b x z
again true x y z = refl
again false x y z = refl

-- what the entries say with one more among them
get-insert : (p : ℕ) (h : PageHist) (pairs : MapPairs) → IsMapKey p → AreKeys pairs → (q : PageId)
    → get (as_entries (insert_entry nat_cmp pairs p h)) q
    ≡ cond (is_eq (page_cmp (page_of_key p) q)) (Some h) (get (as_entries pairs) q)
get-insert p h [] is all q = refl
get-insert p h (e ∷ pairs) is all q = by_cases (nat_cmp p e.0) _
    (λ pe. rw pe refl)
    (λ pe. let same : p ≡ e.0 = nat_order.same p e.0 pe in
    rw pe (
    sym (again (is_eq (page_cmp (page_of_key e.0) q)) (Some h) (Some e.1) (get (as_entries pairs) q))
    ∙ ap (λ k. cond (is_eq (page_cmp (page_of_key k) q)) (Some h) (cond (is_eq (page_cmp (page_of_key e.0) q)) (Some e.1) (get (as_entries pairs) q))) (sym same)))
    (λ pe. rw pe (
    ap (cond (is_eq (page_cmp (page_of_key e.0) q)) (Some e.1)) (get-insert p h pairs is all.1 q)
    ∙ either_first (is_eq (page_cmp (page_of_key e.0) q)) (is_eq (page_cmp (page_of_key p) q)) (Some e.1) (Some h) (get (as_entries pairs) q)
    (λ there here.
    let tied : is_eq (page_cmp (page_of_key e.0) (page_of_key p)) ≡ true = ap is_eq (both_same (page_of_key e.0) (page_of_key p) q there here) in
    let equal : is_eq (nat_cmp p e.0) ≡ true = same_key p e.0 is all.0 ∙ tied in
    let no : false ≡ true = sym (ap is_eq pe) ∙ equal in
    absurd (cc))))

-- ---- the history that pairs keep

falling_entries : (pairs : MapPairs) → AllByRecursion (λ (e : ℕ × PageHist). IsDescending e.1) pairs
    → AllByRecursion (λ (x : Entry). IsDescending x.hist) (as_entries pairs)
falling_entries [] all = tt
falling_entries (e ∷ pairs) all = (all.0, falling_entries pairs all.1)

pub IsHistory-kept : (pairs : MapPairs) → AreKept pairs → IsListHistory (kept pairs)
IsHistory-kept pairs are = IsHistory-in_order (as_entries pairs) (falling_entries pairs are.stamps_descend)

pub get-kept : (pairs : MapPairs) (q : PageId) → get (kept pairs) q ≡ get (as_entries pairs) q
get-kept pairs q = get-in_order (as_entries pairs) q

-- what is found at a key is what the history says of its page
pub find-kept : (key : ℕ) (pairs : MapPairs) → IsMapKey key → AreKept pairs
    → found key pairs ≡ get (kept pairs) (page_of_key key)
find-kept key pairs is are = find-get key pairs is are.are_keys ∙ sym (get-kept pairs (page_of_key key))

pub differing : (pairs : MapPairs) → KeysAscend pairs → AreKeys pairs
    → PagesDiffer (as_entries pairs)
differing [] rising all = tt
differing (e ∷ pairs) rising all = (sym (find-get e.0 pairs all.0 all.1) ∙ no_later e.0 pairs rising.0, differing pairs rising.1 all.1)

pub permuted_kept : (pairs : MapPairs) → AreKept pairs
    → IsPermutation (as_entries pairs) (kept pairs)
permuted_kept pairs are = permuted_in_order (as_entries pairs) (differing pairs are.keys_ascend are.are_keys)

pub length_kept : (pairs : MapPairs) → AreKept pairs → length pairs ≡ length (kept pairs)
length_kept pairs are = sym (length_permutation (as_entries pairs) (kept pairs) (permuted_kept pairs are) ∙ length_entries pairs)

-- the pairs hold the references of their history
told_differing : (es : List Entry) → PagesDiffer es → (p : PageId)
    → told (list_references_of es) p ≡ known_stamps (get es p)
told_differing [] differ p = refl
told_differing (e ∷ es) differ p =
    told-append (references_of_entry e) (list_references_of es) p
    ∙ ap (λ ss. ss ++ told (list_references_of es) p) (told_entry e.page e.hist p)
    ∙ ap (λ ss. cond (is_eq (page_cmp e.page p)) (hist_stamps e.hist) [] ++ ss) (told_differing es differ.1 p)
    ∙ cases (is_eq (page_cmp e.page p)) refl
  where
    cases : (b : Bool) → is_eq (page_cmp e.page p) ≡ b
        → cond (is_eq (page_cmp e.page p)) (hist_stamps e.hist) [] ++ known_stamps (get es p)
        ≡ known_stamps (cond (is_eq (page_cmp e.page p)) (Some e.hist) (get es p))
    cases true here =
        let tied : e.page ≡ p = page_order.same e.page p (is_equal (page_cmp e.page p) here) in
        rw here (ap (λ x. hist_stamps e.hist ++ known_stamps x) (ap (get es) (sym tied) ∙ differ.0) ∙ append-nil (hist_stamps e.hist))
    cases false other = rw other refl

pub hist-pairs : (pairs : MapPairs) → AreKept pairs → (p : PageId)
    → list_hist (list_references_of (as_entries pairs)) p
    ≡ list_hist (list_references_of (kept pairs)) p
hist-pairs pairs are p =
    ap (λ ss. first_two (distinct (flip_args stamp_cmp) ss)) (
    told_differing (as_entries pairs) (differing pairs are.keys_ascend are.are_keys) p
    ∙ ap known_stamps (sym (get-kept pairs p))
    ∙ sym (told_refs (kept pairs) (in_order_rises (as_entries pairs)) p))

-- so either may be taken in
pub told_by_pairs : (S : List Reference) (pairs : MapPairs) → AreKept pairs
    → list_history (S ++ list_references_of (as_entries pairs))
    ≡ list_history (S ++ list_references_of (kept pairs))
told_by_pairs S pairs are = history_alike S S (list_references_of (as_entries pairs)) (list_references_of (kept pairs)) (λ p. refl) (hist-pairs pairs are)

-- new is the history of what old holds, with an entry more
pub exact_pair : (old new : MapPairs) (p : ℕ) (more h : PageHist) (known : Option PageHist)
    → IsMapKey p → AreKept old → known ≡ found p old
    → Some h ≡ latest_of (hist_stamps more ++ known_stamps known)
    → new ≡ insert_entry nat_cmp old p h
    → kept new ≡ list_history
    (list_references_of (kept old)
    ++ references_of_entry (record { page = page_of_key p; hist = more }))
exact_pair old new p more h known is are is_known latest is_new =
    let e : Entry = record { page = page_of_key p; hist = more } in
    let whole = IsHistory-kept old are in
    (takes_in (kept old) (kept new) e whole (in_order_rises (as_entries new))
    (λ q.
    get-kept new q
    ∙ ap (λ t. get (as_entries t) q) is_new
    ∙ get-insert p h old is are.are_keys q
    ∙ ap (λ t. cond (is_eq (page_cmp (page_of_key p) q)) t (get (as_entries old) q)) (latest ∙ ap (λ k. latest_of (hist_stamps more ++ known_stamps k)) (is_known ∙ find-kept p old is are))
    ∙ ap (cond (is_eq (page_cmp (page_of_key p) q)) (latest_of (hist_stamps more ++ known_stamps (get (kept old) (page_of_key p))))) (sym (get-kept old q)))).given
    (list_references_of (kept old)) (sym (history_of_own_references (kept old) whole))

-- stamps that are recorded are taken in
pub records_exact : (old new : MapPairs) (page : PageId) (p : ℕ) (more : PageHist)
    (change : Option UndoNote) → IsMapKey p → AreKept old → RecordsStamps old page p more change new
    → TakesStamps old p more new
records_exact old new page p more change is are records = exact_pair old new p more records.0 (found p old) is are refl records.1 records.2

-- chosen pages of one bucket rise as their keys do
module _ (bucket : ℕ) (test : PageId → Bool)
    (of_bucket : (p : PageId) → test p ≡ true → page_bucket p ≡ bucket) where
  chosen_above : (k : ℕ) (pairs : MapPairs) → IsMapKey k → page_bucket (page_of_key k) ≡ bucket
      → AreAbove k pairs → AreKeys pairs
      → AllByRecursion (λ (x : Entry). page_cmp (page_of_key k) x.page ≡ Less)
      (filter (λ x. test x.page) (as_entries pairs))
  chosen_above k [] is here above all = tt
  chosen_above k (e ∷ pairs) is here above all = cases (test (page_of_key e.0)) refl (chosen_above k pairs is here above.1 all.1)
    where
      cases : (b : Bool) → test (page_of_key e.0) ≡ b
          → AllByRecursion (λ (x : Entry). page_cmp (page_of_key k) x.page ≡ Less)
          (filter (λ x. test x.page) (as_entries pairs))
          → AllByRecursion (λ (x : Entry). page_cmp (page_of_key k) x.page ≡ Less)
          (filter (λ x. test x.page) (as_entries (e ∷ pairs)))
      cases true passed later = rw passed (rising_pages k e.0 is all.0 (here ∙ sym (of_bucket (page_of_key e.0) passed)) above.0, later)
      cases false failed later = rw failed later

  chosen_rise : (pairs : MapPairs) → KeysAscend pairs → AreKeys pairs
      → PagesAscend (filter (λ x. test x.page) (as_entries pairs))
  chosen_rise [] rising all = tt
  chosen_rise (e ∷ pairs) rising all = cases (test (page_of_key e.0)) refl (chosen_rise pairs rising.1 all.1)
    where
      cases : (b : Bool) → test (page_of_key e.0) ≡ b
          → PagesAscend (filter (λ x. test x.page) (as_entries pairs))
          → PagesAscend (filter (λ x. test x.page) (as_entries (e ∷ pairs)))
      cases true passed later = rw passed (chosen_above e.0 pairs all.0 (of_bucket (page_of_key e.0) passed) rising.0 all.1, later)
      cases false failed later = rw failed later

  -- so the map has them as the history does
  pub chosen_kept : (pairs : MapPairs) → AreKept pairs
      → filter (λ x. test x.page) (as_entries pairs) ≡ filter (λ x. test x.page) (kept pairs)
  chosen_kept pairs are =
      same_gets (filter (λ (x : Entry). test x.page) (as_entries pairs)) (filter (λ (x : Entry). test x.page) (kept pairs))
      (chosen_rise pairs are.keys_ascend are.are_keys)
      (rising_filter (on (λ (x : Entry). x.page) page_cmp) (λ (x : Entry). test x.page) (kept pairs) (in_order_rises (as_entries pairs)))
      (λ q.
      get-filter test (as_entries pairs) q
      ∙ ap (λ x. cond (test q) x None) (sym (get-kept pairs q))
      ∙ sym (get-filter test (kept pairs) q))

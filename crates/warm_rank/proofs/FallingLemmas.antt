-- A list of keys sorted, with repeats dropped, and turned round; and the loops that find the
-- candidates for a warm-up list.
use Rattle.std.proofs.Common.{◌≡◌, ◌<◌, ◌≤◌, ℕ, Bool, true, false, cond, not, List, [], ◌∷◌, ◌++◌, length, get_or, map, reverse, sym, ap, ◌∙◌, subst, Option, Some, None, inl, inr, arith}
use Rattle.std.specs.List.{Contains, HoldsAt, cons_option, dedup}
use Rattle.std.specs.List.Sorted.{IsPartitionPoint, IsPermutation, IsSorted, IsStrictlySortedBy}
use Rattle.std.specs.Option.{option_map}
use Rattle.std.specs.Ordering.{eq_by_cmp, is_eq, flip_args}
use Rattle.std.specs.declared.cmp.Ordering.TheVariants.{Less, Equal, Greater}
use Rattle.std.proofs.lemmas.Bool.{cases_Bool, cases_order}
use Rattle.std.proofs.lemmas.Cmp.{eq_by_cmp_equiv, tied_itself}
use Rattle.std.proofs.lemmas.List.{append-nil}
use Rattle.std.proofs.lemmas.List.Elements.{filter-append, filter_map-append}
use Rattle.std.proofs.lemmas.List.Kept.{Contains-dedup, Contains-from_dedup, IsStrictlySortedBy-dedup}
use Rattle.std.proofs.lemmas.List.Sorted.{Contains-permutation, IsPermutation-reverse, IsPermutation-sym}
use Rattle.std.proofs.lemmas.Map.Made.{is_member-Decides}
use Rattle.warm_stamps.specs.declared.PageId.{PageId}
use Rattle.warm_stamps.specs.Stamps.{page_cmp}
use Rattle.warm_stamps.specs.Distinct.{distinct, IsAscending}
use Rattle.warm_stamps.proofs.DistinctLemmas.{IsStrictOrder, Has, distinct_rising, distinct_same, is_equal}
use Rattle.warm_stamps.proofs.StampLemmas.{page_order, IsStrictOrder-flip}
use Rattle.warm_history.specs.ReferenceSets.{ReferenceSet}
use Rattle.warm_history.specs.PageHist.{PageHist}
use Rattle.warm_history.specs.Histories.{HistoryView, IsHistory, StandsFor, hist, references_of}
use Rattle.warm_history.proofs.JoinLemmas.{history_of_own_references}
use Rattle.warm_rank.specs.declared.RankKey.{RankKey}
use Rattle.warm_rank.specs.contracts.RankKeyOrd.TheImpl.Laws as order
use Rattle.warm_rank.specs.contracts.RankKeyPartialEq.TheImpl as derived
use Rattle.warm_rank.specs.Keys.{rank_key, key_cmp, ranked_page}
use Rattle.warm_rank.specs.Relisting.{AreHottest, RaisesOnly, WereHottest, candidates, greatest_keys, is_among, keys_of_others, named_keys}
use Rattle.warm_rank.specs.WarmUp.{IsWarmUp, entry_keys}
use Rattle.warm_rank.proofs.KeyLemmas.{derived-key_cmp, key_order}
use Rattle.warm_rank.proofs.OutrankedLemmas.{contains_has, has_contains, same_item}
use Rattle.warm_rank.proofs.RaisedLemmas.{raises_more}
use Rattle.warm_rank.proofs.RelistLemmas.{candidates_suffice}
use Rattle.warm_rank.proofs.SortLemmas.{descending_reverse}
use Rattle.warm_rank.proofs.WarmUpLemmas.{warm_from_keys}

-- ---- sorted, without repeats, the greatest first

rising_from_strict : (keys : List RankKey) → IsStrictlySortedBy key_cmp keys
    → IsAscending key_cmp keys
unfolding IsStrictlySortedBy
rising_from_strict [] strict = tt
rising_from_strict (k ∷ keys) strict = (strict.0, rising_from_strict keys strict.1)

-- the derived test of equality is that of the order
pub derived_ties : (j k : RankKey) → (derived.ghosts).eq j k ≡ eq_by_cmp key_cmp j k
derived_ties j k = order.matches_eq-law j k ∙ ap is_eq (derived-key_cmp j k)

-- the same if the test of equality, E, is that of the order
pub falling_is : (E : RankKey → RankKey → Bool) → ((j k : RankKey) → E j k ≡ eq_by_cmp key_cmp j k)
    → (keys sorted once : List RankKey) → IsPermutation keys sorted → IsSorted key_cmp sorted
    → once ≡ dedup E sorted → reverse once ≡ distinct (flip_args key_cmp) keys
falling_is E ties keys sorted once moved in_order is =
    sym (distinct_same (flip_args key_cmp) hotter_order keys (reverse once) there back ∙ distinct_rising (flip_args key_cmp) hotter_order (reverse once) (descending_reverse key_cmp key_order once (rising_from_strict once strict)))
  where
    hotter_order : IsStrictOrder (flip_args key_cmp)
    hotter_order = IsStrictOrder-flip key_cmp key_order

    test : E ≡ eq_by_cmp key_cmp
    test = λ i j k. ties j k i

    strict : IsStrictlySortedBy key_cmp once
    strict = subst (IsStrictlySortedBy key_cmp) (sym is) (IsStrictlySortedBy-dedup key_order.total ties sorted in_order)

    once_is : once ≡ dedup (eq_by_cmp key_cmp) sorted
    once_is = is ∙ ap (λ e. dedup e sorted) test

    there : (k : RankKey) → Has keys k → Has (reverse once) k
    there k has =
        let in_sorted = Contains-permutation keys sorted k moved (has_contains keys k has) in
        let in_once = subst (λ ks. Contains ks k) (sym once_is) (Contains-dedup (eq_by_cmp_equiv key_order.total) (λ x y tied. key_order.same x y (is_equal (key_cmp x y) tied)) sorted k in_sorted) in
        contains_has (reverse once) k (Contains-permutation once (reverse once) k (IsPermutation-reverse once) in_once)

    back : (k : RankKey) → Has (reverse once) k → Has keys k
    back k has =
        let in_once = Contains-permutation (reverse once) once k (IsPermutation-sym once (reverse once) (IsPermutation-reverse once)) (has_contains (reverse once) k has) in
        let in_sorted = Contains-from_dedup E sorted k (subst (λ ks. Contains ks k) is in_once) in
        contains_has keys k (Contains-permutation sorted keys k (IsPermutation-sym keys sorted moved) in_sorted)

-- ---- loops that add the part of one key after the other

pub others_both : (pages : List PageId) (xs ys : List RankKey)
    → keys_of_others pages (xs ++ ys) ≡ keys_of_others pages xs ++ keys_of_others pages ys
others_both pages xs ys = filter-append (λ k. not (is_among pages (ranked_page k))) xs ys

pub named_both : (S : ReferenceSet) (xs ys : List PageId)
    → named_keys S (xs ++ ys) ≡ named_keys S xs ++ named_keys S ys
named_both S xs ys = filter_map-append (λ p. option_map (λ h. rank_key p (Some h)) (hist S p)) xs ys

-- a key whose page is among these is left out
pub left_out : (pages : List PageId) (k : RankKey) (keys : List RankKey)
    → is_among pages (ranked_page k) ≡ true → keys ≡ keys ++ keys_of_others pages (k ∷ [])
left_out pages k keys is = sym (append-nil keys) ∙ ap (λ b. keys ++ cond (not b) (k ∷ []) []) (sym is)

-- another one is added
pub other_added : (pages : List PageId) (k : RankKey) (keys : List RankKey)
    → is_among pages (ranked_page k) ≡ false
    → keys ++ k ∷ [] ≡ keys ++ keys_of_others pages (k ∷ [])
other_added pages k keys is = ap (λ b. keys ++ cond (not b) (k ∷ []) []) (sym is)

-- what a look-up in a history finds is what its own references say
looked_up : (h : HistoryView) (p : PageId) (found : Option PageHist) → IsHistory h
    → ((S : ReferenceSet) → StandsFor h S → found ≡ hist S p) → found ≡ hist (references_of h) p
looked_up h p found whole is = is (references_of h) (sym (history_of_own_references h whole))

-- the keys of this page, by what is known of it
abbrev keys_by : PageId → Option PageHist → List RankKey
keys_by p known = cons_option (option_map (λ h. rank_key p (Some h)) known) []

-- a page that the history does not know has no key
pub unknown_added : (h : HistoryView) (p : PageId) (keys : List RankKey) → IsHistory h
    → ((S : ReferenceSet) → StandsFor h S → None ≡ hist S p)
    → keys ≡ keys ++ named_keys (references_of h) (p ∷ [])
unknown_added h p keys whole is = sym (append-nil keys) ∙ ap (λ known. keys ++ keys_by p known) (looked_up h p None whole is)

-- one that it knows has one
pub known_added : (h : HistoryView) (p : PageId) (known : PageHist) (keys : List RankKey)
    → IsHistory h → ((S : ReferenceSet) → StandsFor h S → Some known ≡ hist S p)
    → keys ++ rank_key p (Some known) ∷ [] ≡ keys ++ named_keys (references_of h) (p ∷ [])
known_added h p known keys whole is = ap (λ known. keys ++ keys_by p known) (looked_up h p (Some known) whole is)

-- ---- the search for a page among sorted ones

pub found_among : (pages : List PageId) (page : PageId) (i : ℕ) → i < length pages
    → HoldsAt (λ p. page_cmp p page ≡ Equal) pages i → is_among pages page ≡ true
found_among pages page i there tied =
    (is_member-Decides (same_item page_cmp page_order) pages page).1 (i, there, page_order.same (get_or pages i page) page (tied page))

pub not_among : (pages : List PageId) (page : PageId) (i : ℕ)
    → IsPartitionPoint (λ p. page_cmp p page ≡ Less) (λ p. page_cmp p page ≡ Greater) pages i
    → is_among pages page ≡ false
not_among pages page i (below, above) = elim (cases_Bool (is_among pages page)) [
  | inl is ↦ absurd (nowhere ((is_member-Decides (same_item page_cmp page_order) pages page).0 is))
  | inr not_in ↦ not_in
]
  where
    itself : (k : ℕ) → get_or pages k page ≡ page → page_cmp (get_or pages k page) page ≡ Equal
    itself k is = ap (λ p. page_cmp p page) is ∙ tied_itself page_order.total page

    nowhere : Contains pages page → ⊥
    nowhere (k, there, is) = elim (cases_order k i) [
      | inl same ↦ let no : Greater ≡ Equal = sym (above k page (omega (arith, same)) there) ∙ itself k is in absurd (cc)
      | inr (inl before) ↦ let no : Less ≡ Equal = sym (below k page (omega arith) before) ∙ itself k is in absurd (cc)
      | inr (inr after) ↦ let no : Greater ≡ Equal = sym (above k page (omega (arith, after)) there) ∙ itself k is in absurd (cc)
    ]

-- ---- the list

-- the pages of the hottest keys are the warm-up list
pub warm_from_hottest : (h : HistoryView) (n : ℕ) (keys : List RankKey) → AreHottest h n keys
    → IsWarmUp h n (map ranked_page keys)
warm_from_hottest h n keys hottest S stands = ap (map ranked_page) (hottest S stands) ∙ warm_from_keys S n

-- the hottest of the candidates, whichever way the changed pages are ordered
pub relisted_is : (h : HistoryView) (n : ℕ) (changed pages : List PageId)
    (keys new : List RankKey) → IsHistory h → WereHottest h n changed keys
    → IsPermutation changed pages
    → new ≡ greatest_keys (candidates (references_of h) pages keys) n → AreHottest h n new
relisted_is h n changed pages keys new whole were moved is S stands =
    let T = references_of h in
    let raises : RaisesOnly pages were.earlier T = raises_more changed pages were.earlier T were.raised (λ p has. Contains-permutation changed pages p moved has) in
    is
    ∙ ap (λ ks. greatest_keys (candidates T pages ks) n) were.listed
    ∙ sym (candidates_suffice were.earlier T n pages raises)
    ∙ ap (λ g. greatest_keys (entry_keys g) n) (history_of_own_references h whole ∙ stands)

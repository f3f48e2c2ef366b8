-- With each page of a warm-up list those that leave after it are in the list too.
use Rattle.std.proofs.Common.{◌≡◌, ◌⊎◌, ℕ, zero, suc, true, List, [], ◌∷◌, map, take, is_some, Option, Some, None, refl, sym, ap, ◌∙◌, inl, inr}
use Rattle.std.specs.List.{Contains}
use Rattle.std.specs.Ordering.{flip_args}
use Rattle.std.specs.declared.cmp.Ordering.{Ordering}
use Rattle.std.specs.declared.cmp.Ordering.TheVariants.{Less, Greater}
use Rattle.warm_stamps.specs.declared.PageId.{PageId}
use Rattle.warm_stamps.specs.declared.Reference.{Reference}
use Rattle.warm_stamps.specs.Stamps.{stamp_cmp, page_cmp}
use Rattle.warm_stamps.specs.Distinct.{distinct, IsAscending}
use Rattle.warm_stamps.proofs.DistinctLemmas.{Has, IsStrictOrder, by_cases, flipped, distinct_rises, has_distinct, has_from_distinct}
use Rattle.warm_stamps.proofs.StampLemmas.{page_order, IsStrictOrder-flip}
use Rattle.warm_history.specs.ReferenceSets.{ReferenceSet, references}
use Rattle.warm_history.specs.PageHist.{PageHist}
use Rattle.warm_history.specs.PageHist.TheVariants.{Once, Twice}
use Rattle.warm_history.specs.ListHistories.{list_references_to}
use Rattle.warm_history.specs.Histories.{hist, pages, first_two}
use Rattle.warm_history.proofs.HistoryLemmas.{some_named}
use Rattle.warm_rank.specs.Keys.{rank_key, key_cmp}
use Rattle.warm_rank.specs.Ranking.{eviction_cmp, IsBefore, hottest_pages}
use Rattle.warm_rank.proofs.KeyLemmas.{keys_order_pages}
use Rattle.warm_rank.proofs.EvictionLemmas.{eviction_order}
use Rattle.warm_rank.proofs.OutrankedLemmas.{all_has, contains_has, has_contains, has_take}

-- ---- which pages a warm-up list has

-- if a rising list is cut, what comes before an item that is left is left too
cut_closed : {A : Type 0} (cmp : A → A → Ordering) → IsStrictOrder cmp → (n : ℕ) (xs : List A)
    → IsAscending cmp xs → (x y : A) → Has (take n xs) x → Has xs y → cmp y x ≡ Less
    → Has (take n xs) y
cut_closed cmp order zero xs rising x y has there less = absurd has
cut_closed cmp order (suc n) [] rising x y has there less = absurd has
cut_closed cmp order (suc n) (z ∷ zs) rising x y has (inl is) less = inl is
cut_closed cmp order (suc n) (z ∷ zs) rising x y (inl is) (inr later) less =
    let after : cmp z y ≡ Less = all_has (λ w. cmp z w ≡ Less) zs y rising.0 later in
    let back : cmp y z ≡ Greater = flipped cmp order z y Less after in
    let no : Greater ≡ Less = sym back ∙ ap (cmp y) is ∙ less in
    absurd (cc)
cut_closed cmp order (suc n) (z ∷ zs) rising x y (inr has) (inr later) less = inr (cut_closed cmp order n zs rising.1 x y has later less)

-- a page is named, or no reference is to it
named_or_not : (S : List Reference) (p : PageId)
    → Has (map (λ (r : Reference). r.page) S) p ⊎ (list_references_to S p ≡ [])
named_or_not [] p = inr refl
named_or_not (r ∷ S) p = cases (named_or_not S p)
  where
    cases : Has (map (λ (x : Reference). x.page) S) p ⊎ (list_references_to S p ≡ [])
        → Has (map (λ (x : Reference). x.page) (r ∷ S)) p ⊎ (list_references_to (r ∷ S) p ≡ [])
    cases (inl has) = inl (inr has)
    cases (inr none) = by_cases (page_cmp r.page p) _ (λ less. inr (rw less none)) (λ tied. inl (inl (page_order.same r.page p tied))) (λ more. inr (rw more none))

-- no page that is named leaves before one that isn't
leaves_first : (p q : PageId) (x : Option PageHist) → is_some x ≡ true
    → key_cmp (rank_key p x) (rank_key q None) ≡ Less → ⊥
leaves_first p q None some less = absurd (cc)
leaves_first p q (Some (Once last)) some less = absurd (cc)
leaves_first p q (Some (Twice two)) some less = absurd (cc)

-- so a page that leaves after one that is named is named
after_named : (S : ReferenceSet) (p q : PageId) → Has (pages S) p → IsBefore S p q → Has (pages S) q
after_named S p q named before = elim (named_or_not (references S) q) [
  | inl has ↦ has_distinct page_cmp page_order (map (λ (r : Reference). r.page) (references S)) q has
  | inr none ↦
      let unknown : hist S q ≡ None = ap (λ rs. first_two (distinct (flip_args stamp_cmp) (map (λ (r : Reference). r.stamp) rs))) none in
      let known : is_some (hist S p) ≡ true = some_named S p (has_from_distinct page_cmp page_order (map (λ (r : Reference). r.page) (references S)) p named) in
      absurd (leaves_first p q (hist S p) known (ap (λ o. key_cmp (rank_key p (hist S p)) (rank_key q o)) (sym unknown) ∙ keys_order_pages S p q ∙ before))
]

-- with a page of the list all that leave after it are in the list
pub after_listed : (S : ReferenceSet) (n : ℕ) (p q : PageId) → Contains (hottest_pages S n) p
    → IsBefore S p q → Contains (hottest_pages S n) q
after_listed S n p q contained before =
    let falls = flip_args (eviction_cmp S) in
    let order = IsStrictOrder-flip (eviction_cmp S) (eviction_order S) in
    let listed : Has (hottest_pages S n) p = contains_has (hottest_pages S n) p contained in
    let named : Has (pages S) p = has_from_distinct falls order (pages S) p (has_take n (distinct falls (pages S)) p listed) in
    has_contains (hottest_pages S n) q (cut_closed falls order n (distinct falls (pages S)) (distinct_rises falls order (pages S)) p q listed (has_distinct falls order (pages S) q (after_named S p q named before)) before)

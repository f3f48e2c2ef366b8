-- Over references in the order of their stamps, the distance is counted in places.
use Rattle.std.proofs.Common.{◌≡◌, ℕ, suc, ◌+◌, Bool, true, false, ◌==◌, cond, List, [], ◌∷◌, ◌++◌, length, sym, ap, refl, ◌∙◌, subst, length-append, Option, Some, None, inl, inr, arith}
use Rattle.std.specs.List.{count_by, AllByRecursion}
use Rattle.std.specs.Ordering.{is_eq, is_lt, flip_args}
use Rattle.std.specs.declared.cmp.Ordering.{Ordering}
use Rattle.std.specs.declared.cmp.Ordering.TheVariants.{Less, Equal, Greater}
use Rattle.std.proofs.lemmas.Bool.Decides.{nat_tests}
use Rattle.std.proofs.lemmas.Cmp.{tied_itself}
use Rattle.std.proofs.lemmas.List.Sums.{sum_by-cons}
use Rattle.warm_stamps.specs.declared.Stamp.{Stamp}
use Rattle.warm_stamps.specs.declared.PageId.{PageId}
use Rattle.warm_stamps.specs.declared.Reference.{Reference}
use Rattle.warm_stamps.specs.Stamps.{stamp_cmp, page_cmp, reference_cmp}
use Rattle.warm_stamps.specs.Distinct.{insert_distinct, distinct}
use Rattle.warm_stamps.proofs.DistinctLemmas.{IsStrictOrder, Has, by_cases, flipped, has_from_distinct}
use Rattle.warm_stamps.proofs.StampLemmas.{stamp_order, reference_order}
use Rattle.warm_history.specs.ReferenceSets.{ReferenceSet, references}
use Rattle.warm_history.specs.ListHistories.{list_stamps}
use Rattle.warm_rank.specs.Backward.{StampsAscend, count_to, places_back}
use Rattle.warm_rank.specs.Laws.{DistanceIsPlacesBack}
use Rattle.warm_rank.specs.Ranking.{distance_from}
use Rattle.warm_rank.proofs.LaterCountLemmas.{later, counted, passed, stamps_in}

-- what is true of all items is true of each
each : {A : Type 0} (P : A → Type 0) (xs : List A) → AllByRecursion P xs → (x : A) → Has xs x → P x
each P [] all x has = absurd has
each P (y ∷ ys) all x has = elim has [ inl e ↦ subst P e all.0 | inr there ↦ each P ys all.1 x there ]

-- ---- items that are all different are counted as they are

module _ {A : Type 0} (cmp : A → A → Ordering) (order : IsStrictOrder cmp) (test : A → Bool) where
  count_by-more : (x : A) (xs : List A)
      → count_by test (x ∷ xs) ≡ cond (test x) 1 0 + count_by test xs
  count_by-more x xs = sum_by-cons (λ y. cond (test y) 1 0) x xs

  count_by-insert : (x : A) (ys : List A) → (Has ys x → ⊥)
      → count_by test (insert_distinct cmp x ys) ≡ cond (test x) 1 0 + count_by test ys
  count_by-insert x [] absent = count_by-more x []
  count_by-insert x (y ∷ ys) absent = by_cases (cmp x y) _
      (λ less. rw less (count_by-more x (y ∷ ys)))
      (λ tied. absurd (absent (inl (sym (order.same x y tied)))))
      (λ more. rw more (omega (arith, count_by-more y (insert_distinct cmp x ys), count_by-more y ys, count_by-insert x ys (λ has. absent (inr has)))))

-- no reference is made twice, if stamps rise
absent : (r : Reference) (rs : List Reference)
    → AllByRecursion (λ s. stamp_cmp r.stamp s.stamp ≡ Less) rs → Has rs r → ⊥
absent r rs above has =
    let less : stamp_cmp r.stamp r.stamp ≡ Less = each (λ (s : Reference). stamp_cmp r.stamp s.stamp ≡ Less) rs above r has in
    let no : Less ≡ Equal = sym less ∙ tied_itself stamp_order.total r.stamp in
    cc

count_by-distinct : (test : Reference → Bool) (rs : List Reference) → StampsAscend rs
    → count_by test (distinct reference_cmp rs) ≡ count_by test rs
count_by-distinct test [] rise = refl
count_by-distinct test (r ∷ rs) rise =
    let rest = count_by-distinct test rs rise.1 in
    count_by-insert reference_cmp reference_order test r (distinct reference_cmp rs) (λ has. absent r rs rise.0 (has_from_distinct reference_cmp reference_order rs r has))
    ∙ ap (λ n. cond (test r) 1 0 + n) rest
    ∙ sym (count_by-more reference_cmp reference_order test r rs)

-- ---- one reference more, before all others

-- the first reference's stamp goes behind all stamps of the page
insert_last : (s : Stamp) (ss : List Stamp) → ((t : Stamp) → Has ss t → stamp_cmp s t ≡ Less)
    → insert_distinct (flip_args stamp_cmp) s ss ≡ ss ++ s ∷ []
insert_last s [] below = refl
insert_last s (t ∷ ss) below =
    let more : stamp_cmp t s ≡ Greater = flipped stamp_cmp stamp_order s t Less (below t (inl refl)) in
    rw more (ap (λ us. t ∷ us) (insert_last s ss (λ u has. below u (inr has))))

-- all references are later than one that comes before them
count_above : (s : Stamp) (rs : List Reference)
    → AllByRecursion (λ r. stamp_cmp s r.stamp ≡ Less) rs → count_by (later s) rs ≡ length rs
count_above s [] all = refl
count_above s (r ∷ rs) all = omega (arith, counted (later s) r rs (ap is_lt all.0), count_above s rs all.1)

-- the distance from the second of these stamps, counted over references as they are
abbrev distance_in : List Reference → List Stamp → Option ℕ
distance_in rs [] = None
distance_in rs (last ∷ []) = None
distance_in rs (last ∷ prev ∷ older) = Some (count_by (later prev) rs)

-- a reference that is older than all stamps isn't counted
distance_in-older : (r : Reference) (rs : List Reference) (ss : List Stamp)
    → ((t : Stamp) → Has ss t → stamp_cmp r.stamp t ≡ Less)
    → distance_in (r ∷ rs) ss ≡ distance_in rs ss
distance_in-older r rs [] below = refl
distance_in-older r rs (a ∷ []) below = refl
distance_in-older r rs (a ∷ b ∷ ss) below =
    let older : later b r ≡ false = ap is_lt (flipped stamp_cmp stamp_order r.stamp b Less (below b (inr (inl refl)))) in
    let same : count_by (later b) (r ∷ rs) ≡ count_by (later b) rs = omega (arith, passed (later b) r rs older) in
    ap Some same

not_one : (n : ℕ) → (suc (suc n) == 1) ≡ false
not_one n = grind (arith, nat_tests)

-- a reference to the page, older than all its stamps, is the last but one if the page has one stamp
distance_in-last : (r : Reference) (rs : List Reference) (ss : List Stamp)
    → AllByRecursion (λ s. stamp_cmp r.stamp s.stamp ≡ Less) rs
    → ((t : Stamp) → Has ss t → stamp_cmp r.stamp t ≡ Less)
    → distance_in (r ∷ rs) (ss ++ r.stamp ∷ [])
    ≡ cond (length ss == 1) (Some (length rs)) (distance_in rs ss)
distance_in-last r rs [] above below = refl
distance_in-last r rs (a ∷ []) above below =
    let own : later r.stamp r ≡ false = ap is_lt (tied_itself stamp_order.total r.stamp) in
    let all : count_by (later r.stamp) (r ∷ rs) ≡ length rs = omega (arith, passed (later r.stamp) r rs own, count_above r.stamp rs above) in
    ap Some all
distance_in-last r rs (a ∷ b ∷ ss) above below =
    distance_in-older r rs (a ∷ b ∷ ss) below
    ∙ sym (ap (λ t. cond t (Some (length rs)) (distance_in rs (a ∷ b ∷ ss))) (not_one (length ss)))

-- the stamps of a page in references that rise are all later than an older reference
below_stamps : (r : Reference) (rs : List Reference) (p : PageId)
    → AllByRecursion (λ s. stamp_cmp r.stamp s.stamp ≡ Less) rs → (t : Stamp)
    → Has (list_stamps rs p) t → stamp_cmp r.stamp t ≡ Less
below_stamps r rs p above t has =
    let of = stamps_in rs p t has in
    subst (λ u. stamp_cmp r.stamp u ≡ Less) of.2 (each (λ (s : Reference). stamp_cmp r.stamp s.stamp ≡ Less) rs above of.0 of.1)

stamps-here : (r : Reference) (rs : List Reference) (p : PageId)
    → AllByRecursion (λ s. stamp_cmp r.stamp s.stamp ≡ Less) rs → is_eq (page_cmp r.page p) ≡ true
    → list_stamps (r ∷ rs) p ≡ list_stamps rs p ++ r.stamp ∷ []
stamps-here r rs p above here = rw here (insert_last r.stamp (list_stamps rs p) (below_stamps r rs p above))

stamps-other : (r : Reference) (rs : List Reference) (p : PageId)
    → is_eq (page_cmp r.page p) ≡ false → list_stamps (r ∷ rs) p ≡ list_stamps rs p
stamps-other r rs p other = rw other refl

-- a page has as many stamps as there are references to it
length-stamps : (rs : List Reference) (p : PageId) → StampsAscend rs
    → length (list_stamps rs p) ≡ count_to rs p
length-stamps [] p rise = refl
length-stamps (r ∷ rs) p rise = cases (is_eq (page_cmp r.page p)) refl (length-stamps rs p rise.1)
  where
    cases : (b : Bool) → is_eq (page_cmp r.page p) ≡ b → length (list_stamps rs p) ≡ count_to rs p
        → length (list_stamps (r ∷ rs) p) ≡ count_to (r ∷ rs) p
    cases true here rest = omega (arith, ap length (stamps-here r rs p rise.0 here), length-append (list_stamps rs p) (r.stamp ∷ []), counted (λ x. is_eq (page_cmp x.page p)) r rs here)
    cases false other rest = omega (arith, ap length (stamps-other r rs p other), passed (λ x. is_eq (page_cmp x.page p)) r rs other)

-- the distance is counted in places
places : (rs : List Reference) (p : PageId) → StampsAscend rs
    → distance_in rs (list_stamps rs p) ≡ places_back rs p
places [] p rise = refl
places (r ∷ rs) p rise = cases (is_eq (page_cmp r.page p)) refl (places rs p rise.1)
  where
    cases : (b : Bool) → is_eq (page_cmp r.page p) ≡ b
        → distance_in rs (list_stamps rs p) ≡ places_back rs p
        → distance_in (r ∷ rs) (list_stamps (r ∷ rs) p) ≡ places_back (r ∷ rs) p
    cases true here rest =
        ap (distance_in (r ∷ rs)) (stamps-here r rs p rise.0 here)
        ∙ distance_in-last r rs (list_stamps rs p) rise.0 (below_stamps r rs p rise.0)
        ∙ ap (λ n. cond (n == 1) (Some (length rs)) (distance_in rs (list_stamps rs p))) (length-stamps rs p rise.1)
        ∙ ap (cond (count_to rs p == 1) (Some (length rs))) rest
        ∙ rw here refl
    cases false other rest =
        ap (distance_in (r ∷ rs)) (stamps-other r rs p other)
        ∙ distance_in-older r rs (list_stamps rs p) (below_stamps r rs p rise.0)
        ∙ rest
        ∙ rw other refl

distance_from-in : (S : ReferenceSet) (ss : List Stamp) → StampsAscend (references S)
    → distance_from S ss ≡ distance_in (references S) ss
distance_from-in S [] rise = refl
distance_from-in S (last ∷ []) rise = refl
distance_from-in S (last ∷ prev ∷ older) rise = ap Some (count_by-distinct (later prev) (references S) rise)

pub distance_is_places_back : DistanceIsPlacesBack
distance_is_places_back S p rise = distance_from-in S (list_stamps (references S) p) rise ∙ places (references S) p rise

-- The two latest of stamps.
use Rattle.std.proofs.Common.{◌≡◌, List, [], ◌∷◌, ◌++◌, sym, ap, refl, ◌∙◌, Some, Option, None}
use Rattle.std.specs.Ordering.{flip_args}
use Rattle.warm_stamps.specs.declared.Stamp.{Stamp}
use Rattle.warm_stamps.specs.Stamps.{stamp_cmp}
use Rattle.warm_stamps.specs.Distinct.{distinct, IsAscending}
use Rattle.warm_stamps.proofs.DistinctLemmas.{distinct_swap}
use Rattle.warm_stamps.proofs.StampLemmas.{stamp_order, IsStrictOrder-flip}
use Rattle.warm_maps.specs.declared.hist.PageHist.{PageHist}
use Rattle.warm_maps.specs.PageHists.{first_two, latest_of, hist_stamps, known_stamps, IsDescending}
use Rattle.warm_maps.proofs.Lists.{front_two, front_two-first, front_two-second}

-- the stamps of a page's history fall, if it has one
abbrev pub IsFallingIfAny : Option PageHist → Type 0
IsFallingIfAny None = Unit {0}
IsFallingIfAny (Some h) = IsDescending h

pub falling_first_two : (ss : List Stamp) → IsAscending (flip_args stamp_cmp) ss
    → IsFallingIfAny (first_two ss)
falling_first_two [] rising = tt
falling_first_two (a ∷ []) rising = tt
falling_first_two (a ∷ b ∷ ss) rising = rising.0.0

pub held-first_two : (ss : List Stamp) → known_stamps (first_two ss) ≡ front_two ss
held-first_two [] = refl
held-first_two (a ∷ []) = refl
held-first_two (a ∷ b ∷ ss) = refl

pub first_two-front_two : (ss : List Stamp) → first_two (front_two ss) ≡ first_two ss
first_two-front_two [] = refl
first_two-front_two (a ∷ []) = refl
first_two-front_two (a ∷ b ∷ ss) = refl

-- ---- the two latest of more stamps

-- a stamp more changes the two latest of others as it would with these alone; the others are a
-- stamp and the rest, as code that adds two has them
pub latest_of_more : (last prev : Stamp) (ss : List Stamp) (r : PageHist)
    → Some r ≡ latest_of (prev ∷ ss)
    → latest_of (last ∷ hist_stamps r) ≡ latest_of (last ∷ prev ∷ ss)
latest_of_more last prev ss r is =
    let falls = flip_args stamp_cmp in
    let order = IsStrictOrder-flip stamp_cmp stamp_order in
    let held_is : hist_stamps r ≡ front_two (distinct falls (prev ∷ ss)) = ap known_stamps is ∙ held-first_two (distinct falls (prev ∷ ss)) in
    ap (λ t. latest_of (last ∷ t)) held_is
    ∙ sym (first_two-front_two (distinct falls (last ∷ front_two (distinct falls (prev ∷ ss)))))
    ∙ ap first_two (sym (front_two-second falls order (last ∷ []) (prev ∷ ss)))
    ∙ first_two-front_two (distinct falls (last ∷ prev ∷ ss))

-- what a list of stamps says beside others, its two latest say
pub latest_of_first : (xs ys : List Stamp)
    → latest_of (xs ++ ys) ≡ latest_of (known_stamps (latest_of xs) ++ ys)
latest_of_first xs ys =
    let falls = flip_args stamp_cmp in
    let order = IsStrictOrder-flip stamp_cmp stamp_order in
    sym (first_two-front_two (distinct falls (xs ++ ys)))
    ∙ ap first_two (front_two-first falls order xs ys)
    ∙ first_two-front_two (distinct falls (front_two (distinct falls xs) ++ ys))
    ∙ ap (λ t. latest_of (t ++ ys)) (sym (held-first_two (distinct falls xs)))

pub latest_of_swap : (xs ys : List Stamp) → latest_of (xs ++ ys) ≡ latest_of (ys ++ xs)
latest_of_swap xs ys = ap first_two (distinct_swap (flip_args stamp_cmp) (IsStrictOrder-flip stamp_cmp stamp_order) xs ys)

-- Entries of a history that were read one by one, in any order.
use Rattle.std.proofs.Common.{zero, suc, List, [], ◌∷◌, arith}
use Rattle.std.specs.List.{All, AllByRecursion}
use Rattle.std.specs.List.Sorted.{IsPermutation}
use Rattle.std.proofs.lemmas.List.Sorted.{All-permutation, IsPermutation-sym}

-- what is true of each, place by place and one after the other
at_each_place : {A : Type 0} (P : A → Type 0) (xs : List A) → AllByRecursion P xs → All P xs
at_each_place P [] all k d low = absurd (omega (arith, low))
at_each_place P (x ∷ xs) all zero d low = all.0
at_each_place P (x ∷ xs) all (suc k) d low = at_each_place P xs all.1 k d (omega (arith, low))

one_by_one : {A : Type 0} (P : A → Type 0) (xs : List A) → All P xs → AllByRecursion P xs
one_by_one P [] all = tt
one_by_one P (x ∷ xs) all = (all 0 x (omega arith), one_by_one P xs (λ k d low. all (suc k) d (omega (arith, low))))

-- what is true of each in one order is true in another
pub in_other_order : {A : Type 0} (P : A → Type 0) (xs ys : List A) → IsPermutation xs ys
    → AllByRecursion P ys → AllByRecursion P xs
in_other_order P xs ys moved all = one_by_one P xs (All-permutation P ys xs (IsPermutation-sym xs ys moved) (at_each_place P ys all))

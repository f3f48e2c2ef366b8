-- The errands that give parts are those from the first shard on; a shard has a part or none.
use Rattle.std.proofs.Common.{◌≡◌, ◌≢◌, ◌⊎◌, inl, inr, ℕ, ◌-◌, List, [], ◌∷◌, refl, ap, arith}
use Rattle.std.specs.List.{flat_map, range_with_len}
use Rattle.warm_history.specs.ReferenceSets.{ReferenceSet}
use Rattle.warm_visits.specs.ShardNumbers.{of_shard}
use Rattle.warm_visits.specs.Plans.{give_from}
use Rattle.warm_visits.specs.Visits.{give_part, give_plan}

pub empty_or_not : {A : Type 0} (xs : List A) → (xs ≡ []) ⊎ (xs ≢ [])
empty_or_not [] = inl refl
empty_or_not (x ∷ xs) = inr (λ none. absurd (cc))

pub give_all : (count : ℕ) (S : ReferenceSet)
    → give_plan count S ≡ give_from count (λ i. of_shard count i S) 0
give_all count S =
    let none : count ≡ count - 0 = omega arith in
    ap (λ n. flat_map (λ i. give_part i (of_shard count i S)) (range_with_len 0 n)) none

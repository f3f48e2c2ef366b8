-- No references, at no horizon.
use Rattle.std.proofs.Common.{◌≡◌, List, [], ◌∷◌, ◌++◌, max, refl, ap, arith}
use Rattle.std.proofs.lemmas.List.{append-nil}
use Rattle.warm_stamps.specs.declared.Reference.{Reference}
use Rattle.warm_history.specs.ReferenceSets.{ReferenceSet, set_of_list, ◌∪◌}

pub none_union : (S : ReferenceSet) → set_of_list [] ∪ S ≡ S
none_union S =
    let same : max 0 S.horizon ≡ S.horizon = omega arith in
    λ i. record { horizon = same i; given = S.given }

pub union_none : (S : ReferenceSet) → S ∪ set_of_list [] ≡ S
union_none S =
    let same : max S.horizon 0 ≡ S.horizon = omega arith in
    λ i. record { horizon = same i; given = append-nil S.given i }

both_empty : (rs ss : List Reference) → rs ++ ss ≡ [] → (rs ≡ []) × (ss ≡ [])
both_empty [] ss is = (refl, is)
both_empty (r ∷ rs) ss is = absurd (cc)

-- what is nothing together is nothing apart
pub none_apart : (S T : ReferenceSet) → S ∪ T ≡ set_of_list []
    → (S ≡ set_of_list []) × (T ≡ set_of_list [])
none_apart S T none =
    let time : max S.horizon T.horizon ≡ 0 = ap (λ (U : ReferenceSet). U.horizon) none in
    let first : S.horizon ≡ 0 = omega (arith, time) in
    let second : T.horizon ≡ 0 = omega (arith, time) in
    let given = both_empty S.given T.given (ap (λ (U : ReferenceSet). U.given) none) in (
      λ i. record { horizon = first i; given = given.0 i },
      λ i. record { horizon = second i; given = given.1 i },
    )

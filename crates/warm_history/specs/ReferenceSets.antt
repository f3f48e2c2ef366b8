-- Kept references: those of a list that aren't older than a horizon, read as a set.
use Rattle.std.specs.Prelude.{ℕ, Bool, List, ◌++◌, [], filter, max}
use Rattle.warm_stamps.specs.declared.Reference.{Reference}
pub use Rattle.warm_maps.specs.PageHists.{is_kept}

-- binds tighter than ◌≡◌, as ◌++◌ does
infixr 60 ◌∪◌
-- the references that were given, and the time before which they are forgotten
pub record ReferenceSet : Type 0 where
  pub horizon : ℕ
  pub given : List Reference

-- the references of a list that aren't older than the horizon
abbrev pub references_from : ℕ → List Reference → List Reference
references_from horizon rs = filter (λ r. is_kept horizon r.stamp) rs

-- the references of a set: those not older than its horizon
abbrev pub references : ReferenceSet → List Reference
references S = references_from S.horizon S.given

-- the set of the references of a list, with horizon 0
abbrev pub set_of_list : List Reference → ReferenceSet
set_of_list rs = record { horizon = 0; given = rs }

-- the references of both sets, cut at the greater horizon
abbrev pub ◌∪◌ : ReferenceSet → ReferenceSet → ReferenceSet
S ∪ T = record { horizon = max S.horizon T.horizon; given = S.given ++ T.given }

-- the references that pass the test
abbrev pub filter_references : (Reference → Bool) → ReferenceSet → ReferenceSet
filter_references test S = record { horizon = S.horizon; given = filter test S.given }

-- the references from this time on
abbrev pub with_horizon : ℕ → ReferenceSet → ReferenceSet
with_horizon time S = S ∪ record { horizon = time; given = [] }

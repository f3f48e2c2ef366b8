-- A message that is passed: what becomes of a visit that reads.
use Rattle.std.proofs.Common.{◌≡◌, ℕ, Bool, [], ◌∷◌, Option, refl}
use Rattle.warm_visits.specs.declared.visit.Work.{Work}
use Rattle.warm_visits.specs.declared.visit.Work.TheVariants.{Read}
use Rattle.warm_visits.specs.VisitMessages.{without_message, without_of}
use Rattle.warm_visits.specs.VisitParts.{visit_of}
use Rattle.warm_visits.specs.Visits.{After, Made, VisitState, answered, compares, ends, gathered, joined, nothing, raised, requests}

module _ (id count time rising shard : ℕ) (kept : Option ℕ) (stopped : Bool) where
  abbrev with_work : Work → VisitState
  with_work work = visit_of id count time rising shard work kept stopped

  read_without : (made : Made) (after : After) (r : VisitState)
      → with_work (Read (without_of made after r)) ≡ without_of made after (with_work (Read r))
  read_without (answered (m ∷ ms)) after r = refl
  read_without (answered []) (requests message) r = refl
  read_without (answered []) ends r = refl
  read_without (answered []) (compares digests) r = refl
  read_without nothing after r = refl
  read_without (raised horizon) after r = refl
  read_without (gathered horizon table) after r = refl
  read_without (joined h) after r = refl

  pub passes_read : (r : VisitState)
      → with_work (Read (without_message r)) ≡ without_message (with_work (Read r))
  passes_read r = read_without r.made r.after r

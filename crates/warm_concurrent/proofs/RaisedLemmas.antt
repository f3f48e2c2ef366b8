-- What a visit gave that first raises all shards: the horizon to each, and then to each its part.
use Rattle.std.proofs.Common.{◌≡◌, ◌≢◌, ◌⊎◌, inl, inr, ℕ, zero, suc, ◌+◌, ◌<◌, false, List, [], ◌∷◌, ◌++◌, length, max, refl, sym, ap, subst, ◌∙◌, arith}
use Rattle.std.specs.Prelude.{None, Some}
use Rattle.warm_stamps.specs.declared.Reference.{Reference}
use Rattle.warm_history.specs.ReferenceSets.{ReferenceSet, set_of_list, ◌∪◌}
use Rattle.warm_machine.specs.declared.operation.Operation.{Operation}
use Rattle.warm_machine.specs.Runs.{Runs}
use Rattle.warm_visits.specs.ShardNumbers.{of_shard}
use Rattle.warm_visits.specs.declared.stage.Stage.{Stage}
use Rattle.warm_visits.specs.declared.stage.Stage.TheVariants.{Raising}
use Rattle.warm_visits.specs.Plans.{raise_from}
use Rattle.warm_visits.specs.Stages.{next_stage}
use Rattle.warm_visits.specs.Visits.{Errand, Said, VisitState, give_plan, next_shard, raise_plan, shard_next}
use Rattle.warm_visits.proofs.RunLemmas.{all_keep}
use Rattle.warm_visits.proofs.StageLemmas.{NeverRaises, never_again, other_stage}
use Rattle.warm_visits.proofs.VisitPlans.{raise_begun, raise_end, raise_here}
use Rattle.warm_concurrent.specs.Attached.{ShardPass}
use Rattle.warm_concurrent.specs.Given.{only_horizon}
use Rattle.warm_concurrent.specs.Visiting.{EntersByTurn, GoesByTurns, Visiting, visiting}
use Rattle.warm_concurrent.proofs.GivenLemmas.{EachGives, Gives, given_as, given_then, nothing}
use Rattle.warm_concurrent.proofs.ReadLemmas.{AsksNone, reads_nothing}
use Rattle.warm_concurrent.proofs.ReferenceSetLemmas.{union_none}
use Rattle.warm_concurrent.proofs.VisitedLemmas.{EndsAt, PartGave, never_refused, part_gave, parts_given, turn_gives}
use Rattle.warm_shards.proofs.FirstLemmas.{none_first, one_first}

-- ---- the horizon

module _ (old : List ShardPass) (time : ℕ) (rest : List Errand) where
  -- each of the first k shards was given the horizon
  abbrev pub HaveRisen : ℕ → List ShardPass → Type 0
  HaveRisen k new = EachGives (λ i. only_horizon time) k old new

  -- all shards were, and then the other errands followed
  pub record RisenAll (t : Visiting) : Type 0 where
    pub mid : Visiting
    pub entries : List (Operation Errand Said)
    pub plan : mid.visit.plan ≡ rest
    pub risen : HaveRisen (length old) mid.passes
    pub runs : Runs EntersByTurn mid entries t

  -- those before shard k were, which the visit enters next
  pub record RisenSome (k : ℕ) (t : Visiting) : Type 0 where
    pub below : k < length old
    pub next : next_shard t.visit ≡ Some k
    pub raising : next_stage t.visit.plan ≡ Some Raising
    pub risen : HaveRisen k t.passes

  raises_from : (n j : ℕ) (s t : Visiting) (es : List (Operation Errand Said)) → j + n ≡ length old
      → s.visit.plan ≡ raise_from (length old) time j ++ rest → HaveRisen j s.passes
      → Runs EntersByTurn s es t → t.visit.stopped ≡ false
      → RisenAll t ⊎ ((k : ℕ) × RisenSome k t)
  raises_from zero j s t es long plan so runs well =
      let all : j ≡ length old = omega (arith, long) in
      inl (record {
        mid = s;
        entries = es;
        plan = plan ∙ ap (λ es. es ++ rest) (raise_end (length old) time j (omega (arith, long)));
        risen = subst (λ k. HaveRisen k s.passes) all so;
        runs = runs;
      })
  raises_from (suc n) j s t [] long plan so runs well =
      let at : t.visit.plan ≡ raise_from (length old) time j ++ rest = ap (λ (x : Visiting). x.visit.plan) (sym runs) ∙ plan in
      let first = at ∙ ap (λ es. es ++ rest) (raise_here (length old) time j (omega (arith, long))) in
      inr (
        j,
        record {
          below = omega (arith, long);
          next = (λ i. shard_next (well i) (first i));
          raising = ap next_stage first;
          risen = subst (λ (x : Visiting). HaveRisen j x.passes) runs so;
        },
      )
  raises_from (suc n) j s t (o ∷ os) long plan so (y, entry, runs) well =
      let lt : j < length old = omega (arith, long) in
      let gave = turn_gives s y j (only_horizon time) (raise_from (length old) time (j + 1) ++ rest) o.call o.reply (plan ∙ ap (λ es. es ++ rest) (raise_here (length old) time j lt)) entry (never_refused y t os runs well) in
      raises_from n (j + 1) y t os (omega (arith, long)) gave.plan
      (one_first (λ i. Gives (only_horizon time)) j old s.passes y.passes lt so gave.others gave.gives) runs well

  -- so of a visit that begins with the first shard
  pub raises : (v w : VisitState) (new : List ShardPass) → GoesByTurns v old w new
      → v.plan ≡ raise_plan (length old) time ++ rest → w.stopped ≡ false
      → RisenAll (visiting w new) ⊎ ((k : ℕ) × RisenSome k (visiting w new))
  raises v w new (es, runs) plan well =
      raises_from (length old) 0 (visiting v old) (visiting w new) es (omega arith) (plan ∙ ap (λ es. es ++ rest) (sym (raise_begun (length old) time))) (none_first (λ i. Gives (only_horizon time)) old) runs well

-- ---- and then the parts

-- a horizon, and then what a shard was given of references at it, is its part
both_are : (time : ℕ) (P : ReferenceSet) (rs : List Reference) → P.horizon ≡ time → P.given ≡ rs
    → only_horizon time ∪ part_gave P rs ≡ P
both_are time P [] at is =
    let same : max time 0 ≡ P.horizon = omega (arith, at) in
    λ i. record { horizon = same i; given = sym is i }
both_are time P (r ∷ rs) at is =
    let same : max time P.horizon ≡ P.horizon = omega (arith, at) in
    λ i. record { horizon = same i; given = P.given }

pub both_parts : (time : ℕ) (P : ReferenceSet) → P.horizon ≡ time
    → only_horizon time ∪ part_gave P P.given ≡ P
both_parts time P at = both_are time P P.given at refl

-- once all are raised, each is given its part, up to where the visit ends
pub parts_then : (old : List ShardPass) (S : ReferenceSet) (w : VisitState) (k : ℕ)
    (new : List ShardPass) (r : RisenAll old S.horizon (give_plan (length old) S) (visiting w new))
    → w.stopped ≡ false → EndsAt old S k w → EachGives (PartGave old S) k r.mid.passes new
parts_then old S w k new r well ends =
    let mid = r.mid.passes in
    let long : length mid ≡ length old = r.risen.count in
    let there : EndsAt mid S k w = elim ends [ inl at ↦ inl at | inr over ↦ inr (over.0, over.1 ∙ sym long) ] in
    given_as (PartGave mid S) (PartGave old S) k mid new (λ i. ap (λ n. let P : ReferenceSet = of_shard n i S in part_gave P P.given) long)
    (parts_given mid S r.mid.visit w k new (r.entries, r.runs) (r.plan ∙ ap (λ n. give_plan n S) (sym long)) well there)

-- once all are raised, what reads gives nothing
pub risen_read : (old : List ShardPass) (time : ℕ) (rest : List Errand) → AsksNone rest
    → (t : Visiting) → RisenAll old time rest t
    → EachGives (λ i. only_horizon time) (length old) old t.passes
risen_read old time rest none t r =
    let mid = r.mid.passes in
    let later = reads_nothing r.mid t r.entries (subst AsksNone (sym r.plan) none) r.runs in
    let also : EachGives nothing (length old) mid t.passes = subst (λ n. EachGives nothing n mid t.passes) r.risen.count later in
    given_as (λ i. only_horizon time ∪ set_of_list []) (λ i. only_horizon time) (length old) old t.passes (λ i. union_none (only_horizon time))
    (given_then (λ i. only_horizon time) nothing (length old) old mid t.passes r.risen also)

-- once all are raised, the visit is in another stage
pub risen_stage : (old : List ShardPass) (time : ℕ) (rest : List Errand) (stage : Stage)
    → NeverRaises rest → (t : Visiting) → RisenAll old time rest t
    → next_stage t.visit.plan ≡ Some stage → stage ≢ Raising
risen_stage old time rest stage never t r at =
    other_stage t.visit.plan stage (all_keep EntersByTurn (λ (s : Visiting). NeverRaises s.visit.plan) (λ x y e said none entry. never_again x.visit y.visit e said none entry.1) r.mid t r.entries (subst NeverRaises (sym r.plan) never) r.runs) at

-- a visit without errands names no shard
no_next : (w : VisitState) (k : ℕ) → w.stopped ≡ false → w.plan ≡ [] → next_shard w ≡ Some k → ⊥
no_next w k well over next =
    let none : shard_next w.stopped w.plan ≡ None = (λ i. shard_next (well i) (over i)) in
    let no : None ≡ Some k = sym none ∙ next in
    absurd (cc)

module _ (old new : List ShardPass) (v w : VisitState) (goes : GoesByTurns v old w new)
    (well : w.stopped ≡ false) (over : w.plan ≡ []) where
  -- all shards have their parts of S
  pub all_both : (S : ReferenceSet)
      → v.plan ≡ raise_plan (length old) S.horizon ++ give_plan (length old) S
      → EachGives (λ i. of_shard (length old) i S) (length old) old new
  all_both S plan = elim (raises old S.horizon (give_plan (length old) S) v w new goes plan well) [
    | inl r ↦
        given_as (λ i. only_horizon S.horizon ∪ PartGave old S i) (λ i. of_shard (length old) i S) (length old) old new (λ i. both_parts S.horizon (of_shard (length old) i S) refl)
        (given_then (λ i. only_horizon S.horizon) (PartGave old S) (length old) old r.mid.passes new r.risen (parts_then old S w (length old) new r well (inr (over, refl))))
    | inr some ↦ absurd (no_next w some.0 well over some.1.next)
  ]

  -- all shards have the horizon, and nothing else, if what follows reads
  pub all_risen : (time : ℕ) (rest : List Errand) → AsksNone rest
      → v.plan ≡ raise_plan (length old) time ++ rest
      → EachGives (λ i. only_horizon time) (length old) old new
  all_risen time rest none plan = elim (raises old time rest v w new goes plan well) [
    | inl r ↦ risen_read old time rest none (visiting w new) r
    | inr some ↦ absurd (no_next w some.0 well over some.1.next)
  ]

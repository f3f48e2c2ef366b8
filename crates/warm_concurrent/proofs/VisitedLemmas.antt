-- What a visit gave the shards that it went through by turns, each its part.
use Rattle.std.proofs.Common.{◌≡◌, ◌≢◌, ◌⊎◌, inl, inr, ℕ, zero, suc, ◌+◌, ◌<◌, true, false, List, [], ◌∷◌, length, refl, sym, ap, subst, ◌∙◌, arith}
use Rattle.std.specs.Prelude.{None, Some}
use Rattle.warm_stamps.specs.declared.Reference.{Reference}
use Rattle.warm_history.specs.ReferenceSets.{ReferenceSet, set_of_list}
use Rattle.warm_machine.specs.declared.operation.Operation.{Operation}
use Rattle.warm_machine.specs.Runs.{Runs}
use Rattle.warm_gossip.specs.State.{NodeState}
use Rattle.warm_visits.specs.ShardNumbers.{of_shard}
use Rattle.warm_visits.specs.Plans.{give_from}
use Rattle.warm_visits.specs.Visits.{Ask, Errand, NodeSays, Said, Takes, VisitState, at_shard, give_plan, given, giving, next_shard, refused, shard_next}
use Rattle.warm_visits.proofs.VisitPlans.{give_end, give_here, give_past}
use Rattle.warm_visits.proofs.PlanGiven.{empty_or_not, give_all}
use Rattle.warm_shard_machine.specs.Entering.{gave_ask, gave_entry, gave_first}
use Rattle.warm_shard_machine.specs.declared.calls.ShardCall.TheVariants.{Enter}
use Rattle.warm_shard_machine.specs.declared.calls.ShardReply.TheVariants.{Entered}
use Rattle.warm_concurrent.specs.Attached.{KeepsOtherPasses, ShardPass, shard_pass}
use Rattle.warm_concurrent.specs.Clauses.{AnsweredByShard}
use Rattle.warm_concurrent.specs.Visiting.{EntersByTurn, GoesByTurns, Visiting, visiting}
use Rattle.warm_concurrent.proofs.EntryLemmas.{not_both}
use Rattle.warm_concurrent.proofs.GivenLemmas.{EachGives, Gives, given_as, gives_as, gives_called, gives_none}
use Rattle.warm_shards.proofs.FirstLemmas.{none_first, one_first, same_first}

-- ---- refusals

-- a visit that was refused nothing at the end was so before
pub never_refused : (s t : Visiting) (es : List (Operation Errand Said)) → Runs EntersByTurn s es t
    → t.visit.stopped ≡ false → s.visit.stopped ≡ false
never_refused s t [] runs well = ap (λ (x : Visiting). x.visit.stopped) runs ∙ well
never_refused s t (o ∷ os) (y, entry, runs) well = entry.1.2.ready

-- an errand that was refused gave nothing
ask_refused : (ask : Ask) → gave_ask ask true ≡ set_of_list []
ask_refused (giving S) = refl
ask_refused ask = refl

pub gave_refused : (plan : List Errand) → gave_first plan true ≡ set_of_list []
gave_refused [] = refl
gave_refused (e ∷ es) = ask_refused e.ask

-- ---- one errand that gives

plan_after : (v w : VisitState) (n m : NodeState) (i : ℕ) (S : ReferenceSet) (rest : List Errand)
    (said : Said) → NodeSays n (giving S) said m → Takes v i (giving S) rest said w
    → w.stopped ≡ false → w.plan ≡ rest
plan_after v w n m i S rest (given horizon) says takes well = ap (λ (x : VisitState). x.plan) takes
plan_after v w n m i S rest refused says takes well =
    absurd (not_both w well (ap (λ (x : VisitState). x.stopped) takes))
plan_after v w n m i S rest said says takes well = absurd says

-- the shard was given S in this turn, and the errand is over
pub record Gave (i : ℕ) (S : ReferenceSet) (rest : List Errand) (s y : Visiting) : Type 0 where
  pub plan : y.visit.plan ≡ rest
  pub there : i < length s.passes
  pub gives : Gives S (shard_pass s.passes i) (shard_pass y.passes i)
  pub others : KeepsOtherPasses s.passes i y.passes

pub turn_gives : (s y : Visiting) (i : ℕ) (S : ReferenceSet) (rest : List Errand) (e : Errand)
    (said : Said) → s.visit.plan ≡ at_shard i (giving S) ∷ rest → EntersByTurn s e said y
    → y.visit.stopped ≡ false → Gave i S rest s y
turn_gives s y i S rest e said plan (lt, (n, m, enters), answered) well =
    let is : e ∷ enters.rest ≡ at_shard i (giving S) ∷ rest = sym enters.next ∙ plan in
    let here : e ≡ at_shard i (giving S) = cc in
    let later : enters.rest ≡ rest = cc in
    let says : NodeSays n (giving S) said m = subst (λ (x : Errand). NodeSays n x.ask said m) here enters.says in
    let takes : Takes s.visit i (giving S) rest said y.visit = subst (λ (es : List Errand). Takes s.visit i (giving S) es said y.visit) later (subst (λ (x : Errand). Takes s.visit x.shard x.ask enters.rest said y.visit) here enters.takes) in
    let turn : AnsweredByShard s.passes i (Enter (length s.passes) i s.visit) (Entered y.visit) y.passes = subst (λ (x : Errand). AnsweredByShard s.passes x.shard (Enter (length s.passes) x.shard s.visit) (Entered y.visit) y.passes) here answered in
    let all : gave_entry s.visit y.visit ≡ S = λ j. gave_first (plan j) (well j) in
    record {
      plan = plan_after s.visit y.visit n m i S rest said says takes well;
      there = subst (λ (x : Errand). x.shard < length s.passes) here lt;
      gives = gives_as (gave_entry s.visit y.visit) S (shard_pass s.passes i) (shard_pass y.passes i) all (gives_called (shard_pass s.passes i) (shard_pass y.passes i) (Enter (length s.passes) i s.visit) (Entered y.visit) turn.0);
      others = turn.1;
    }

-- ---- the parts

-- what an errand gives a shard, if it has one: only if there are references
abbrev pub part_gave : ReferenceSet → List Reference → ReferenceSet
part_gave S [] = set_of_list []
part_gave S (r ∷ rs) = S

part_some : (S : ReferenceSet) (rs : List Reference) → rs ≢ [] → part_gave S rs ≡ S
part_some S [] some = absurd (some refl)
part_some S (r ∷ rs) some = refl

-- at no horizon that is its part
part_all : (S : ReferenceSet) (rs : List Reference) → S.horizon ≡ 0 → S.given ≡ rs
    → part_gave S rs ≡ S
part_all S [] none is = λ i. record { horizon = sym none i; given = sym is i }
part_all S (r ∷ rs) none is = refl

module _ (old : List ShardPass) (S : ReferenceSet) where
  abbrev pub part_of : ℕ → ReferenceSet
  part_of i = of_shard (length old) i S

  abbrev pub PartGave : ℕ → ReferenceSet
  PartGave i = part_gave (part_of i) (part_of i).given

  -- the visit is next to enter shard k, or has no errand left
  abbrev pub EndsAt : ℕ → VisitState → Type 0
  EndsAt k v = (next_shard v ≡ Some k) ⊎ ((v.plan ≡ []) × (k ≡ length old))

  -- shard j is given its part, and then the others, as `next` says
  parts_here : (j k : ℕ) (s t : Visiting) (es : List (Operation Errand Said)) → j < length old
      → s.visit.plan ≡ at_shard j (giving (part_of j)) ∷ give_from (length old) part_of (j + 1)
      → PartGave j ≡ part_of j → EachGives PartGave j old s.passes
      → ((y : Visiting) (es : List (Operation Errand Said)) → EachGives PartGave (j + 1) old y.passes
      → y.visit.plan ≡ give_from (length old) part_of (j + 1) → Runs EntersByTurn y es t
      → EachGives PartGave k old t.passes)
      → Runs EntersByTurn s es t → t.visit.stopped ≡ false → EndsAt k t.visit
      → EachGives PartGave k old t.passes
  parts_here j k s t [] lt plan all so next runs well ends = elim ends [
    | inl at ↦
        let here : shard_next t.visit.stopped t.visit.plan ≡ Some j = (λ i. shard_next (well i) ((ap (λ (x : Visiting). x.visit.plan) (sym runs) ∙ plan) i)) in
        let first : Some j ≡ Some k = sym here ∙ at in
        let same : j ≡ k = cc in
        subst (λ (x : Visiting). EachGives PartGave k old x.passes) runs (subst (λ l. EachGives PartGave l old s.passes) same so)
    | inr over ↦
        let no : at_shard j (giving (part_of j)) ∷ give_from (length old) part_of (j + 1) ≡ [] = sym plan ∙ ap (λ (x : Visiting). x.visit.plan) runs ∙ over.0 in
        absurd (cc)
  ]
  parts_here j k s t (o ∷ os) lt plan all so next (y, entry, runs) well ends =
      let gave = turn_gives s y j (part_of j) (give_from (length old) part_of (j + 1)) o.call o.reply plan entry (never_refused y t os runs well) in
      next y os
      (one_first (λ i. Gives (PartGave i)) j old s.passes y.passes lt so gave.others (gives_as (part_of j) (PartGave j) (shard_pass s.passes j) (shard_pass y.passes j) (sym all) gave.gives))
      gave.plan runs

  -- from one shard on, each is given its part, up to where the visit ends
  parts_from : (n j k : ℕ) (s t : Visiting) (es : List (Operation Errand Said)) → j + n ≡ length old
      → s.visit.plan ≡ give_from (length old) part_of j → EachGives PartGave j old s.passes
      → Runs EntersByTurn s es t → t.visit.stopped ≡ false → EndsAt k t.visit
      → EachGives PartGave k old t.passes
  parts_from zero j k s t [] long plan so runs well ends =
      let none : t.visit.plan ≡ [] = ap (λ (x : Visiting). x.visit.plan) (sym runs) ∙ plan ∙ give_end (length old) part_of j (omega (arith, long)) in
      let nowhere : shard_next t.visit.stopped t.visit.plan ≡ None = (λ i. shard_next (well i) (none i)) in
      elim ends [
        | inl at ↦ let no : None ≡ Some k = sym nowhere ∙ at in absurd (cc)
        | inr over ↦
            let same : j ≡ k = omega (arith, long, over.1) in
            subst (λ (x : Visiting). EachGives PartGave k old x.passes) runs (subst (λ l. EachGives PartGave l old s.passes) same so)
      ]
  parts_from zero j k s t (o ∷ os) long plan so (y, entry, runs) well ends =
      let no : o.call ∷ entry.1.2.rest ≡ [] = sym entry.1.2.next ∙ plan ∙ give_end (length old) part_of j (omega (arith, long)) in
      absurd (cc)
  parts_from (suc n) j k s t es long plan so runs well ends = elim (empty_or_not (part_of j).given) [
    | inl none ↦
        let nothing : PartGave j ≡ set_of_list [] = ap (part_gave (part_of j)) none in
        parts_from n (j + 1) k s t es (omega (arith, long)) (plan ∙ give_past (length old) part_of j (omega (arith, long)) none)
        (same_first (λ i. Gives (PartGave i)) j old s.passes (omega (arith, long)) so (gives_as (set_of_list []) (PartGave j) (shard_pass s.passes j) (shard_pass s.passes j) (sym nothing) (gives_none (shard_pass s.passes j) (shard_pass s.passes j) refl))) runs well ends
    | inr some ↦
        parts_here j k s t es (omega (arith, long)) (plan ∙ give_here (length old) part_of j (omega (arith, long)) some) (part_some (part_of j) (part_of j).given some) so
        (λ y es more plan runs. parts_from n (j + 1) k y t es (omega (arith, long)) plan more runs well ends) runs well ends
  ]

  -- so of a visit that begins with the first shard
  pub parts_given : (v w : VisitState) (k : ℕ) (new : List ShardPass) → GoesByTurns v old w new
      → v.plan ≡ give_plan (length old) S → w.stopped ≡ false → EndsAt k w
      → EachGives PartGave k old new
  parts_given v w k new (es, runs) plan well ends =
      parts_from (length old) 0 k (visiting v old) (visiting w new) es (omega arith) (plan ∙ give_all (length old) S) (none_first (λ i. Gives (PartGave i)) old) runs well ends

-- a batch has no horizon
pub batch_given : (old new : List ShardPass) (v w : VisitState) (batch : List Reference) (k : ℕ)
    → GoesByTurns v old w new → v.plan ≡ give_plan (length old) (set_of_list batch)
    → w.stopped ≡ false → EndsAt old (set_of_list batch) k w
    → EachGives (λ i. of_shard (length old) i (set_of_list batch)) k old new
batch_given old new v w batch k goes plan well ends =
    let S = set_of_list batch in
    given_as (PartGave old S) (part_of old S) k old new (λ i. part_all (part_of old S i) (part_of old S i).given refl refl) (parts_given old S v w k new goes plan well ends)

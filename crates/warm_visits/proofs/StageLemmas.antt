-- A visit that raises no more, and its stage.
use Rattle.std.proofs.Common.{◌≡◌, ◌≢◌, ℕ, zero, suc, ◌+◌, ◌%◌, Bool, true, false, List, [], ◌∷◌, ◌++◌, map, refl, sym, ap, subst, ◌∙◌}
use Rattle.std.specs.Prelude.{None, Some}
use Rattle.std.specs.List.{flat_map, range_with_len}
use Rattle.warm_stamps.specs.declared.Reference.{Reference}
use Rattle.warm_history.specs.ReferenceSets.{ReferenceSet}
use Rattle.warm_frames.specs.declared.message.Message.{Message}
use Rattle.warm_peer.specs.Answers.{requested_buckets}
use Rattle.warm_visits.specs.declared.stage.Stage.{Stage}
use Rattle.warm_visits.specs.declared.stage.Stage.TheVariants.{Giving, Raising}
use Rattle.warm_visits.specs.Laws.{EntersAny}
use Rattle.warm_visits.specs.Stages.{giving_stage, next_stage, stage_of}
use Rattle.warm_visits.specs.Visits.{After, Ask, ComparesOffers, Errand, Made, Said, Takes, VisitState, at_each, at_shard, compares, copied, copying, each_shard, gathered, give_part, give_plan, given, giving, goes_on, offered, offering, onward, part_errand, refused, sending, sent}
use Rattle.warm_visits.specs.ShardNumbers.{of_shard}

-- none of these errands raises
abbrev pub NeverRaises : List Errand → Type 0
NeverRaises [] = Unit {0}
NeverRaises (e ∷ es) = (stage_of e.ask ≢ Raising) × NeverRaises es

pub never_both : (es fs : List Errand) → NeverRaises es → NeverRaises fs → NeverRaises (es ++ fs)
never_both [] fs one other = other
never_both (e ∷ es) fs (first, one) other = (first, never_both es fs one other)

never_part : (i : ℕ) (S : ReferenceSet) (rs : List Reference) → S.given ≡ rs
    → NeverRaises (part_errand i S rs)
never_part i S [] is = tt
never_part i S (r ∷ rs) is =
    ((λ no. let gives : Giving ≡ Raising = sym (ap giving_stage is) ∙ no in absurd (cc)), tt)

never_gives : (part : ℕ → ReferenceSet) (is : List ℕ)
    → NeverRaises (flat_map (λ i. give_part i (part i)) is)
never_gives part [] = tt
never_gives part (i ∷ is) =
    never_both (give_part i (part i)) (flat_map (λ i. give_part i (part i)) is) (never_part i (part i) (part i).given refl) (never_gives part is)

pub never_given : (count : ℕ) (S : ReferenceSet) → NeverRaises (give_plan count S)
never_given count S = never_gives (λ i. of_shard count i S) (each_shard count)

pub never_sent : (count : ℕ) (bs : List ℕ)
    → NeverRaises (map (λ b. at_shard (b % count) (sending b None)) bs)
never_sent count [] = tt
never_sent count (b ∷ bs) = ((λ no. absurd (cc)), never_sent count bs)

never_from : (ask : Ask) → stage_of ask ≢ Raising → (first n : ℕ)
    → NeverRaises (map (λ i. at_shard i ask) (range_with_len first n))
never_from ask other first zero = tt
never_from ask other first (suc n) = (other, never_from ask other (first + 1) n)

pub never_offered : (count : ℕ) → NeverRaises (at_each count offering)
never_offered count = never_from offering (λ no. absurd (cc)) 0 count

never_compared : (v w : VisitState) (rest : List Errand) (after : After) (made : Made)
    → NeverRaises v.plan → ComparesOffers rest after made v w → NeverRaises w.plan
never_compared v w [] (compares digests) (gathered horizon table) none is =
    subst (λ (x : VisitState). NeverRaises x.plan) (sym is.3) (never_sent v.count (requested_buckets is.0))
never_compared v w rest after made none is = subst (λ (x : VisitState). NeverRaises x.plan) (sym is) none

never_goes_on : (i bucket : ℕ) (message : Message) (more : Bool) (rest : List Errand)
    → NeverRaises rest → NeverRaises (goes_on i bucket message more ++ rest)
never_goes_on i bucket message true rest none = ((λ no. absurd (cc)), none)
never_goes_on i bucket message false rest none = none

never_taken : (v w : VisitState) (i : ℕ) (ask : Ask) (rest : List Errand) (said : Said)
    → NeverRaises v.plan → NeverRaises rest → Takes v i ask rest said w → NeverRaises w.plan
never_taken v w i (giving S) rest (given horizon) plan none is = subst (λ (x : VisitState). NeverRaises x.plan) (sym is) none
never_taken v w i (giving S) rest refused plan none is = subst (λ (x : VisitState). NeverRaises x.plan) (sym is) plan
never_taken v w i offering rest (offered horizon table) plan none is =
    never_compared (onward v rest is.0) w rest v.after is.0 none is.2
never_taken v w i offering rest refused plan none is = subst (λ (x : VisitState). NeverRaises x.plan) (sym is) plan
never_taken v w i (sending bucket after) rest (sent message more) plan none is =
    subst (λ (x : VisitState). NeverRaises x.plan) (sym is) (never_goes_on i bucket message more rest none)
never_taken v w i (sending bucket after) rest refused plan none is = subst (λ (x : VisitState). NeverRaises x.plan) (sym is) plan
never_taken v w i copying rest (copied h) plan none is = subst (λ (x : VisitState). NeverRaises x.plan) (sym is) none
never_taken v w i copying rest refused plan none is = subst (λ (x : VisitState). NeverRaises x.plan) (sym is) plan
never_taken v w i ask rest said plan none is = absurd is

-- a visit that raises no more goes on so
pub never_again : (v w : VisitState) (e : Errand) (said : Said) → NeverRaises v.plan
    → EntersAny v e said w → NeverRaises w.plan
never_again v w e said none (n, m, enters) =
    let all : NeverRaises (e ∷ enters.rest) = subst NeverRaises enters.next none in
    never_taken v w e.shard e.ask enters.rest said none all.1 enters.takes

-- and it is in another stage
pub other_stage : (plan : List Errand) (stage : Stage) → NeverRaises plan
    → next_stage plan ≡ Some stage → stage ≢ Raising
other_stage [] stage none is = absurd (cc)
other_stage (e ∷ es) stage none is = λ raising.
    let same : stage_of e.ask ≡ stage = cc in
    none.0 (same ∙ raising)

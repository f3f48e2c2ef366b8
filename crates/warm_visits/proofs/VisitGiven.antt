-- What the errands of a visit gave once it is over: that of its plan, whatever others did between
-- two entries; and that is the whole.
use Rattle.std.proofs.Common.{◌≡◌, ◌⊎◌, inl, inr, ℕ, zero, suc, ◌+◌, ◌<◌, ◌%◌, Bool, true, false, List, [], ◌∷◌, ◌++◌, map, max, refl, sym, ap, ◌∙◌, arith}
use Rattle.std.specs.Prelude.{None}
use Rattle.std.specs.List.{range_with_len}
use Rattle.std.proofs.lemmas.List.{append-nil}
use Rattle.warm_stamps.specs.declared.Reference.{Reference}
use Rattle.warm_history.specs.ReferenceSets.{ReferenceSet, set_of_list, ◌∪◌}
use Rattle.warm_history.specs.Histories.{history, references_of}
use Rattle.warm_history.proofs.JoinLemmas.{both_assoc, history_first}
use Rattle.warm_frames.specs.declared.message.Message.{Message}
use Rattle.warm_frames.specs.declared.message.Message.TheVariants.{Digest, Entries, Want}
use Rattle.warm_machine.specs.declared.operation.Operation.{Operation}
use Rattle.warm_machine.specs.Runs.{Runs}
use Rattle.warm_peer.specs.Answers.{refs_in, requested_buckets}
use Rattle.warm_visits.specs.Given.{at_horizon}
use Rattle.warm_visits.specs.ShardNumbers.{of_first_shards, of_shard}
use Rattle.warm_visits.specs.Laws.{EntersAny, GivesAll, WholeIsGiven, gave_all, gave_errand}
use Rattle.warm_visits.specs.Plans.{give_from}
use Rattle.warm_visits.specs.Visits.{After, Ask, ComparesOffers, Errand, Made, Said, Takes, VisitState, at_each, at_shard, compares, copied, copying, gathered, give_plan, given, giving, goes_on, offered, offering, raise_plan, receive_visit, refused, send_plan, sending, sent, each_shard}
use Rattle.warm_visits.proofs.EmptySetLemmas.{none_apart, none_union, union_none}
use Rattle.warm_visits.proofs.ErrandLemmas.{some_count}
use Rattle.warm_visits.proofs.PartLemmas.{all_parts, next_part, no_part}
use Rattle.warm_visits.proofs.VisitPlans.{give_end, give_here, give_past}
use Rattle.warm_visits.proofs.PlanGiven.{empty_or_not, give_all}

-- ---- what a plan gives

abbrev pub asked : Ask → ReferenceSet
asked (giving S) = S
asked ask = set_of_list []

-- what its errands give together
abbrev pub plan_gives : List Errand → ReferenceSet
plan_gives [] = set_of_list []
plan_gives (e ∷ es) = asked e.ask ∪ plan_gives es

gives_both : (es fs : List Errand) → plan_gives (es ++ fs) ≡ plan_gives es ∪ plan_gives fs
gives_both [] fs = sym (none_union (plan_gives fs))
gives_both (e ∷ es) fs =
    ap (λ S. asked e.ask ∪ S) (gives_both es fs) ∙ sym (both_assoc (asked e.ask) (plan_gives es) (plan_gives fs))

pub sends_none : (count : ℕ) (bs : List ℕ)
    → plan_gives (map (λ b. at_shard (b % count) (sending b None)) bs) ≡ set_of_list []
sends_none count [] = refl
sends_none count (b ∷ bs) = ap (λ S. set_of_list [] ∪ S) (sends_none count bs)

pub each_none : (ask : Ask) → asked ask ≡ set_of_list [] → (is : List ℕ)
    → plan_gives (map (λ i. at_shard i ask) is) ≡ set_of_list []
each_none ask none [] = refl
each_none ask none (i ∷ is) = let rest = each_none ask none is in λ k. none k ∪ rest k

-- the same horizon, given to each shard
risen_from : (time first n : ℕ)
    → plan_gives (map (λ i. at_shard i (giving (at_horizon time))) (range_with_len first (suc n))) ≡ at_horizon time
risen_from time first zero = union_none (at_horizon time)
risen_from time first (suc n) =
    let same : max time time ≡ time = omega arith in
    ap (λ S. at_horizon time ∪ S) (risen_from time (first + 1) n) ∙ ap at_horizon same

risen_plan : (count time : ℕ) → 0 < count → plan_gives (raise_plan count time) ≡ at_horizon time
risen_plan zero time some = absurd (omega arith)
risen_plan (suc n) time some = risen_from time 0 n

-- ---- entries

-- the visit goes on, and these errands are left to give, or others that give as much
abbrev LeavesToGive : List Errand → VisitState → Type 0
LeavesToGive rest w = (w.stopped ≡ false) × (plan_gives w.plan ≡ plan_gives rest)

leaves : (w u : VisitState) → w ≡ u → u.stopped ≡ false → LeavesToGive u.plan w
leaves w u is going =
    (ap (λ (x : VisitState). x.stopped) is ∙ going, ap (λ (x : VisitState). plan_gives x.plan) is)

compared_gives : (v w : VisitState) (rest : List Errand) (after : After) (made : Made)
    → v.stopped ≡ false → v.plan ≡ rest → ComparesOffers rest after made v w → LeavesToGive rest w
compared_gives v w [] (compares digests) (gathered horizon table) going plan is =
    let left = leaves w _ is.3 refl in
    (left.0, left.1 ∙ sends_none v.count (requested_buckets is.0))
compared_gives v w rest after made going plan is =
    let left = leaves w v is going in (left.0, left.1 ∙ ap plan_gives plan)

goes_on_none : (i bucket : ℕ) (message : Message) (more : Bool) (rest : List Errand)
    → plan_gives (goes_on i bucket message more ++ rest) ≡ plan_gives rest
goes_on_none i bucket message true rest = none_union (plan_gives rest)
goes_on_none i bucket message false rest = refl

-- the errand was refused; or it gave what was asked, and the visit goes on
pub taken_gives : (v w : VisitState) (i : ℕ) (ask : Ask) (rest : List Errand) (said : Said)
    → v.stopped ≡ false → Takes v i ask rest said w → (w ≡ record v { stopped = true })
    ⊎ ((gave_errand ask said ≡ asked ask) × LeavesToGive rest w)
taken_gives v w i (giving S) rest (given horizon) going is = inr (refl, leaves w _ is going)
taken_gives v w i offering rest (offered horizon table) going is = inr (refl, compared_gives _ w rest v.after is.0 going refl is.2)
taken_gives v w i (sending bucket after) rest (sent message more) going is =
    let left = leaves w _ is going in inr (refl, (left.0, left.1 ∙ goes_on_none i bucket message more rest))
taken_gives v w i copying rest (copied h) going is = inr (refl, leaves w _ is going)
taken_gives v w i (giving S) rest refused going is = inl is
taken_gives v w i offering rest refused going is = inl is
taken_gives v w i (sending bucket after) rest refused going is = inl is
taken_gives v w i copying rest refused going is = inl is
taken_gives v w i ask rest said going is = absurd is

-- if the errands give nothing, neither does the next one, nor do those that follow it
pub none_follows : (v w : VisitState) (e : Errand) (said : Said) → plan_gives v.plan ≡ set_of_list []
    → EntersAny v e said w → (asked e.ask ≡ set_of_list []) × (plan_gives w.plan ≡ set_of_list [])
none_follows v w e said none (old, new, enters) =
    let apart = none_apart (asked e.ask) (plan_gives enters.rest) (ap plan_gives (sym enters.next) ∙ none) in (
      apart.0,
      elim (taken_gives v w e.shard e.ask enters.rest said enters.ready enters.takes) [
        | inl is ↦ ap (λ (x : VisitState). plan_gives x.plan) is ∙ none
        | inr ran ↦ ran.1.1 ∙ apart.1
      ],
    )

-- a visit that was refused is not over
stopped_stays : (v w : VisitState) (e : Errand) (rest : List Errand)
    (es : List (Operation Errand Said)) → v.stopped ≡ true → v.plan ≡ e ∷ rest
    → Runs EntersAny v es w → w.plan ≡ [] → ⊥
stopped_stays v w e rest [] is plan runs over =
    let no : e ∷ rest ≡ [] = sym plan ∙ ap (λ (x : VisitState). x.plan) runs ∙ over in absurd (cc)
stopped_stays v w e rest (o ∷ os) is plan (y, entry, runs) over =
    let no : true ≡ false = sym is ∙ entry.2.ready in absurd (cc)

-- a visit that is over gave what its plan had
pub over_gave : (v w : VisitState) (es : List (Operation Errand Said)) → Runs EntersAny v es w
    → w.plan ≡ [] → gave_all es ≡ plan_gives v.plan
over_gave v w [] runs over = ap plan_gives (sym over) ∙ ap (λ (x : VisitState). plan_gives x.plan) (sym runs)
over_gave v w (o ∷ os) (y, (old, new, enters), runs) over =
    elim (taken_gives v y o.call.shard o.call.ask enters.rest o.reply enters.ready enters.takes) [
      | inl is ↦ absurd (stopped_stays y w o.call enters.rest os (ap (λ (x : VisitState). x.stopped) is) (ap (λ (x : VisitState). x.plan) is ∙ enters.next) runs over)
      | inr ran ↦
          let rest = over_gave y w os runs over ∙ ran.1.1 in
          (λ k. ran.0 k ∪ rest k) ∙ ap plan_gives (sym enters.next)
    ]

-- ---- the parts together

abbrev first_of : ℕ → ReferenceSet → ℕ → ReferenceSet
first_of count S k = of_first_shards count k S

alike_then : (A B S : ReferenceSet) → history A ≡ history B → history (A ∪ S) ≡ history (B ∪ S)
alike_then A B S is = sym (history_first A S) ∙ ap (λ h. history (references_of h ∪ S)) is ∙ history_first B S

-- the next shard has no part
past_none : (count k : ℕ) (R S : ReferenceSet) → (of_shard count k S).given ≡ []
    → history (R ∪ first_of count S k) ≡ history (R ∪ first_of count S (k + 1))
past_none count k R S none =
    let A = first_of count S k in
    let part : at_horizon S.horizon ≡ of_shard count k S = λ i. record { horizon = S.horizon; given = sym none i } in
    let twice : max (max R.horizon S.horizon) S.horizon ≡ max R.horizon S.horizon = omega arith in
    let same : (R ∪ A) ∪ at_horizon S.horizon ≡ R ∪ A = λ i. record { horizon = twice i; given = append-nil (R.given ++ A.given) i } in
    ap history (sym same) ∙ ap (λ T. history ((R ∪ A) ∪ T)) part ∙ next_part count k R S

parts_from : (n count k : ℕ) (R S : ReferenceSet) → k + n ≡ count
    → history ((R ∪ first_of count S k) ∪ plan_gives (give_from count (λ i. of_shard count i S) k))
    ≡ history (R ∪ first_of count S count)
parts_from zero count k R S is =
    let A = first_of count S k in
    let all : k ≡ count = omega (arith, is) in
    ap (λ es. history ((R ∪ A) ∪ plan_gives es)) (give_end count (λ i. of_shard count i S) k (omega (arith, is)))
    ∙ ap history (union_none (R ∪ A)) ∙ ap (λ j. history (R ∪ first_of count S j)) all
parts_from (suc n) count k R S is =
    let A = first_of count S k in
    let B = of_shard count k S in
    let part : ℕ → ReferenceSet = λ i. of_shard count i S in
    let later = plan_gives (give_from count part (k + 1)) in
    let rest = parts_from n count (k + 1) R S (omega (arith, is)) in
    elim (empty_or_not B.given) [
      | inl none ↦
          ap (λ es. history ((R ∪ A) ∪ plan_gives es)) (give_past count part k (omega (arith, is)) none)
          ∙ alike_then (R ∪ A) (R ∪ first_of count S (k + 1)) later (past_none count k R S none) ∙ rest
      | inr some ↦
          ap (λ es. history ((R ∪ A) ∪ plan_gives es)) (give_here count part k (omega (arith, is)) some)
          ∙ ap history (sym (both_assoc (R ∪ A) B later))
          ∙ alike_then ((R ∪ A) ∪ B) (R ∪ first_of count S (k + 1)) later (next_part count k R S) ∙ rest
    ]

-- once a set has the horizon of S, the parts of S are S
parts_give : (count : ℕ) (R S : ReferenceSet) → 0 < count
    → history ((R ∪ at_horizon S.horizon) ∪ plan_gives (give_plan count S)) ≡ history (R ∪ S)
parts_give count R S some =
    let none : at_horizon S.horizon ≡ first_of count S 0 = λ i. record { horizon = S.horizon; given = sym (no_part count S.given) i } in
    ap (λ T. history ((R ∪ T) ∪ plan_gives (give_plan count S))) none
    ∙ ap (λ es. history ((R ∪ first_of count S 0) ∪ plan_gives es)) (give_all count S)
    ∙ parts_from count count 0 R S (omega arith)
    ∙ all_parts count R S (λ r. omega (arith, some))

-- ---- whole visits

gives_of : (visit : ℕ → VisitState) (S : ReferenceSet)
    → ((count : ℕ) → 0 < count → (R : ReferenceSet) → history (R ∪ plan_gives (visit count).plan) ≡ history (R ∪ S))
    → GivesAll visit S
gives_of visit S gives count es w valid runs over R =
    ap (λ T. history (R ∪ T)) (over_gave (visit count) w es runs over) ∙ gives count (some_count count valid) R

-- raised, and then given
both_give : (count : ℕ) (R S : ReferenceSet) → 0 < count
    → history (R ∪ plan_gives (raise_plan count S.horizon ++ give_plan count S)) ≡ history (R ∪ S)
both_give count R S some =
    ap (λ T. history (R ∪ T)) (gives_both (raise_plan count S.horizon) (give_plan count S))
    ∙ ap (λ T. history (R ∪ (T ∪ plan_gives (give_plan count S)))) (risen_plan count S.horizon some)
    ∙ ap history (sym (both_assoc R (at_horizon S.horizon) (plan_gives (give_plan count S))))
    ∙ parts_give count R S some

batch_gives : (count : ℕ) (R : ReferenceSet) (batch : List Reference) → 0 < count
    → history (R ∪ plan_gives (give_plan count (set_of_list batch))) ≡ history (R ∪ set_of_list batch)
batch_gives count R batch some =
    ap (λ T. history (T ∪ plan_gives (give_plan count (set_of_list batch)))) (sym (union_none R)) ∙ parts_give count R (set_of_list batch) some

-- raised, and then read
reads_give : (count time : ℕ) (rest : List Errand) → 0 < count → plan_gives rest ≡ set_of_list []
    → plan_gives (raise_plan count time ++ rest) ≡ at_horizon time
reads_give count time rest some none =
    gives_both (raise_plan count time) rest
    ∙ (λ i. risen_plan count time some i ∪ none i) ∙ union_none (at_horizon time)

pub whole_is_given : WholeIsGiven
whole_is_given = record {
  absorbs = λ id batch. gives_of _ (set_of_list batch) (λ count some R. batch_gives count R batch some);
  raises = λ id time. gives_of _ (at_horizon time) (λ count some R. ap (λ T. history (R ∪ T)) (risen_plan count time some));
  receives = received;
  joins = λ id h. gives_of _ (references_of h) (λ count some R. both_give count R (references_of h) some);
}
  where
    received : (id : ℕ) (message : Message) → GivesAll (λ n. receive_visit id n message) (refs_in message)
    received id (Entries sender horizon entries) =
        gives_of _ (refs_in (Entries sender horizon entries)) (λ count some R. both_give count R (refs_in (Entries sender horizon entries)) some)
    received id (Want sender horizon request) =
        gives_of _ (at_horizon horizon) (λ count some R. ap (λ T. history (R ∪ T)) (reads_give count horizon (send_plan count request) some (sends_none count (requested_buckets request))))
    received id (Digest sender horizon digests) =
        gives_of _ (at_horizon horizon) (λ count some R. ap (λ T. history (R ∪ T)) (reads_give count horizon (at_each count offering) some (each_none offering refl (each_shard count))))

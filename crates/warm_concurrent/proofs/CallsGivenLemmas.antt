-- What one call of one shard gave, and what calls of all shards gave that stopped at one.
use Rattle.std.proofs.Common.{◌≡◌, ◌≢◌, inl, inr, ℕ, zero, suc, ◌<◌, ◌≤◌, Bool, true, false, cond, List, [], ◌++◌, length, refl, sym, ap, subst, ◌∙◌, arith}
use Rattle.std.specs.Prelude.{Some, nat_eq, nat_lt}
use Rattle.std.proofs.lemmas.Bool.{cases_eq, eq-eqb, eqb-true, le-ltb, lt-ltb, ltb-true, ne_eqb}
use Rattle.warm_stamps.specs.declared.Reference.{Reference}
use Rattle.warm_history.specs.ReferenceSets.{ReferenceSet, set_of_list, ◌∪◌}
use Rattle.warm_history.specs.References.{IsIn}
use Rattle.warm_history.specs.Histories.{references_of}
use Rattle.warm_frames.specs.declared.message.Message.{Message}
use Rattle.warm_frames.specs.declared.message.Message.TheVariants.{Entries, Digest, Want}
use Rattle.warm_gossip.specs.declared.fault.NodeFault.{NodeFault}
use Rattle.warm_gossip.specs.declared.fault.NodeFault.TheVariants.{Memory}
use Rattle.warm_peer.specs.Answers.{refs_in, requested_buckets}
use Rattle.warm_visits.specs.ShardNumbers.{IsShardCount, of_first_shards, of_shard, shard_of}
use Rattle.warm_visits.specs.declared.stage.Stage.{Stage}
use Rattle.warm_visits.specs.declared.stage.Stage.TheVariants.{Raising}
use Rattle.warm_visits.specs.Visits.{Errand, VisitState, absorb_visit, at_each, copy_visit, copying, give_plan, join_visit, next_shard, offer_visit, offering, raise_plan, receive_visit, send_plan}
use Rattle.warm_visits.proofs.ErrandLemmas.{some_count}
use Rattle.warm_visits.proofs.StageLemmas.{NeverRaises, never_given, never_offered, never_sent}
use Rattle.warm_visits.proofs.VisitGiven.{sends_none as asks_sends}
use Rattle.warm_visits.proofs.Lists.{from_filter, in_both, in_filter, in_first, in_second}
use Rattle.warm_shard_machine.specs.declared.calls.ShardCall.{ShardCall}
use Rattle.warm_shard_machine.specs.declared.calls.ShardCall.TheVariants.{Enter, Raise}
use Rattle.warm_shard_machine.specs.declared.calls.ShardReply.{ShardReply}
use Rattle.warm_shard_machine.specs.declared.calls.ShardReply.TheVariants.{Done, Entered, Refused}
use Rattle.warm_shard_machine.specs.Entering.{gave_first}
use Rattle.warm_concurrent.specs.declared.fault.SharedFault.{SharedFault}
use Rattle.warm_concurrent.specs.declared.fault.SharedFault.TheVariants.{Node, TurnsSpent}
use Rattle.warm_concurrent.specs.Attached.{ShardPass, shard_pass}
use Rattle.warm_concurrent.specs.Clauses.{AnsweredByShard, CallFails}
use Rattle.warm_concurrent.specs.Given.{HasGiven, HasGivenNothing, SameGiven, ThreadsGive, gave_call, gave_together, given_to_first, given_up_to, only_horizon}
use Rattle.warm_concurrent.specs.Visiting.{EntryFails, IsGoneThrough, StageFails, VisitFails, VisitStops, as_stopped, visiting}
use Rattle.warm_concurrent.specs.Whole.{Does, RaiseFails}
use Rattle.warm_concurrent.proofs.GivenLemmas.{EachGives, Gives, all_given, as_given, given_as, given_by_sum, given_none, given_then, gives_as, gives_called, gives_none, gives_spent, nothing, one_nothing, other_same, raised_each}
use Rattle.warm_concurrent.proofs.EntryLemmas.{names_next}
use Rattle.std.proofs.lemmas.Bool.{cases_lt as below}
use Rattle.warm_concurrent.proofs.RaisedLemmas.{RisenAll, all_both, all_risen, both_parts, parts_then, raises, risen_read, risen_stage}
use Rattle.warm_concurrent.proofs.ReadLemmas.{AsksNone, asks_each, reads_nothing}
use Rattle.warm_concurrent.proofs.ReferenceSetLemmas.{none_union, same_self, sum, union_none}
use Rattle.warm_concurrent.proofs.VisitedLemmas.{PartGave, batch_given, gave_refused, part_gave}

-- ---- calls of one shard

-- one set at this place, and nothing elsewhere
abbrev one_at : ℕ → ReferenceSet → ℕ → ReferenceSet
one_at i G j = cond (nat_eq j i) G (set_of_list [])

at_same : (i : ℕ) (G : ReferenceSet) → one_at i G i ≡ G
at_same i G = rw (eq-eqb i i refl) refl

at_other : (i : ℕ) (G : ReferenceSet) (j : ℕ) → j ≢ i → one_at i G j ≡ set_of_list []
at_other i G j other = rw (ne_eqb j i other) refl

sum_before : (i : ℕ) (G : ReferenceSet) (k : ℕ) → k ≤ i → sum (one_at i G) k ≡ set_of_list []
sum_before i G zero le = refl
sum_before i G (suc k) le =
    let one = sum_before i G k (omega (arith, le)) in
    let other = at_other i G k (λ e. omega (arith, e, le)) in
    λ t. one t ∪ other t

sum_one : (i : ℕ) (G : ReferenceSet) (k : ℕ) → i < k → sum (one_at i G) k ≡ G
sum_one i G zero lt = absurd (omega (arith, lt))
sum_one i G (suc k) lt = elim (cases_eq i k) [
  | inl same ↦
      let one = sum_before i G k (omega (arith, same)) in
      let last : one_at i G k ≡ G = ap (one_at i G) (sym same) ∙ at_same i G in
      (λ t. one t ∪ last t) ∙ none_union G
  | inr other ↦
      let one = sum_one i G k (omega (arith, lt, other)) in
      let last = at_other i G k (λ e. other (sym e)) in
      (λ t. one t ∪ last t) ∙ union_none G
]

called_given : (old new : List ShardPass) (i : ℕ) (c : ShardCall) (r : ShardReply) → i < length old
    → AnsweredByShard old i c r new → HasGiven (gave_call c r) old new
called_given old new i c r lt answered =
    let G = gave_call c r in
    given_by_sum (one_at i G) G old new (λ j less. elim (cases_eq j i) [
      | inl same ↦
          subst (λ (n : ℕ). Gives (one_at i G n) (shard_pass old n) (shard_pass new n)) (sym same)
          (gives_as G (one_at i G i) (shard_pass old i) (shard_pass new i) (sym (at_same i G)) (gives_called (shard_pass old i) (shard_pass new i) c r answered.0))
      | inr other ↦
          gives_as (set_of_list []) (one_at i G j) (shard_pass old j) (shard_pass new j) (sym (at_other i G j other))
          (gives_none (shard_pass old j) (shard_pass new j) (other_same old new i j answered.1 other))
    ]) (subst (λ T. SameGiven T G) (sym (sum_one i G (length old) lt)) (same_self G))

-- ---- a call that gave nothing

-- so of a call that is refused, or finds no ticket
fails_each : (old new : List ShardPass) (i : ℕ) (c : ShardCall) (why : SharedFault)
    → ((w : NodeFault) → gave_call c (Refused w) ≡ set_of_list []) → i < length old
    → CallFails old i c why new → EachGives nothing (length old) old new
fails_each old new i c (Node w) none lt fails =
    one_nothing old new i lt fails.1 (gives_as (gave_call c (Refused w)) (set_of_list []) (shard_pass old i) (shard_pass new i) (none w) (gives_called (shard_pass old i) (shard_pass new i) c (Refused w) fails.0))
fails_each old new i c TurnsSpent none lt fails = one_nothing old new i lt fails.1 (gives_spent (shard_pass old i) (shard_pass new i) fails.0)
fails_each old new i c why none lt fails = absurd fails

-- a call that is refused gave nothing
gave_none : (c : ShardCall) (w : NodeFault) → gave_call c (Refused w) ≡ set_of_list []
gave_none (Raise time) w = refl
gave_none c w = refl

sum_nothing : (n : ℕ) → sum nothing n ≡ set_of_list []
sum_nothing zero = refl
sum_nothing (suc n) = union_none (sum nothing n) ∙ sum_nothing n

-- if some shards gave nothing, and the others were not called
gave_nothing : (k : ℕ) (old new : List ShardPass) → EachGives nothing k old new
    → HasGivenNothing old new
gave_nothing k old new given =
    let none : ReferenceSet = set_of_list [] in
    given_by_sum nothing none old new (λ i lt. elim (below i k) [
      | inl low ↦ given.first i low
      | inr high ↦ gives_none (shard_pass old i) (shard_pass new i) (given.others i high)
    ]) (subst (λ T. SameGiven T none) (sym (sum_nothing (length old))) (same_self none))

-- ---- the parts of the first shards

-- the parts of the shards below k, and nothing else
abbrev parts_below : ℕ → ℕ → ReferenceSet → ℕ → ReferenceSet
parts_below count k S i = cond (nat_lt i k) (of_shard count i S) (set_of_list [])

part_below : (count k : ℕ) (S : ReferenceSet) (i : ℕ) → i < k
    → parts_below count k S i ≡ of_shard count i S
part_below count k S i lt = rw (lt-ltb i k lt) refl

part_above : (count k : ℕ) (S : ReferenceSet) (i : ℕ) → k ≤ i
    → parts_below count k S i ≡ set_of_list []
part_above count k S i le = rw (le-ltb i k le) refl

horizon_none : (count : ℕ) (S : ReferenceSet) (n : ℕ) → (sum (parts_below count 0 S) n).horizon ≡ 0
horizon_none count S zero = refl
horizon_none count S (suc n) =
    let last : (parts_below count 0 S n).horizon ≡ 0 = ap (λ (T : ReferenceSet). T.horizon) (part_above count 0 S n (omega arith)) in
    omega (arith, last, horizon_none count S n)

part_horizon : (count k : ℕ) (S : ReferenceSet) (i : ℕ) → (parts_below count k S i).horizon ≤ S.horizon
part_horizon count k S i = cases (nat_lt i k) refl
  where
    cases : (b : Bool) → nat_lt i k ≡ b → (parts_below count k S i).horizon ≤ S.horizon
    cases true is = rw is (omega arith)
    cases false is = rw is (omega arith)

horizon_some : (count k : ℕ) (S : ReferenceSet) (n : ℕ)
    → (sum (parts_below count (suc k) S) (suc n)).horizon ≡ S.horizon
horizon_some count k S zero =
    let first : (parts_below count (suc k) S 0).horizon ≡ S.horizon = ap (λ (T : ReferenceSet). T.horizon) (part_below count (suc k) S 0 (omega arith)) in
    omega (arith, first)
horizon_some count k S (suc n) = omega (arith, horizon_some count k S n, part_horizon count (suc k) S (suc n))

below_there : (count k : ℕ) (S : ReferenceSet) (n : ℕ) (r : Reference)
    → IsIn r (sum (parts_below count k S) n).given → IsIn r (of_first_shards count k S).given
below_there count k S zero r here = absurd here
below_there count k S (suc n) r here = elim (in_both r (sum (parts_below count k S) n).given (parts_below count k S n).given here) [
  | inl before ↦ below_there count k S n r before
  | inr last ↦ cases (nat_lt n k) refl last
]
  where
    cases : (b : Bool) → nat_lt n k ≡ b → IsIn r (parts_below count k S n).given
        → IsIn r (of_first_shards count k S).given
    cases true is last =
        let from = from_filter (λ x. nat_eq (shard_of count x.page) n) r S.given (rw is at last) in
        let same : shard_of count r.page ≡ n = eqb-true (shard_of count r.page) n from.1 in
        in_filter (λ x. nat_lt (shard_of count x.page) k) r S.given from.0 (ap (λ (s : ℕ). nat_lt s k) same ∙ is)
    cases false is last = absurd (rw is at last)

sum_has : (T : ℕ → ReferenceSet) (n j : ℕ) (r : Reference) → j < n → IsIn r (T j).given
    → IsIn r (sum T n).given
sum_has T zero j r lt here = absurd (omega (arith, lt))
sum_has T (suc n) j r lt here = elim (cases_eq j n) [
  | inl same ↦ in_second r (sum T n).given (T n).given (subst (λ (i : ℕ). IsIn r (T i).given) same here)
  | inr other ↦ in_first r (sum T n).given (T n).given (sum_has T n j r (omega (arith, lt, other)) here)
]

below_back : (count k : ℕ) (S : ReferenceSet) (n : ℕ) (r : Reference) → k ≤ n
    → IsIn r (of_first_shards count k S).given → IsIn r (sum (parts_below count k S) n).given
below_back count k S n r le here =
    let from = from_filter (λ x. nat_lt (shard_of count x.page) k) r S.given here in
    let s = shard_of count r.page in
    let less : s < k = ltb-true s k from.1 in
    let own : IsIn r (of_shard count s S).given = in_filter (λ x. nat_eq (shard_of count x.page) s) r S.given from.0 (eq-eqb s s refl) in
    sum_has (parts_below count k S) n s r (omega (arith, less, le))
    (subst (λ (T : ReferenceSet). IsIn r T.given) (sym (part_below count k S s less)) own)

none_first : (count : ℕ) (S : ReferenceSet) (r : Reference) → IsIn r (of_first_shards count 0 S).given
    → IsIn r []
none_first count S r here =
    let from = from_filter (λ x. nat_lt (shard_of count x.page) 0) r S.given here in
    absurd (omega (arith, ltb-true (shard_of count r.page) 0 from.1))

parts_are : (count k : ℕ) (S : ReferenceSet) (n : ℕ) → k ≤ n
    → SameGiven (sum (parts_below count k S) n) (given_to_first count k S)
parts_are count zero S n le = record {
  horizon = horizon_none count S n;
  there = λ r here. none_first count S r (below_there count 0 S n r here);
  back = λ r here. absurd here;
}
parts_are count (suc k) S zero le = absurd (omega (arith, le))
parts_are count (suc k) S (suc n) le = record {
  horizon = horizon_some count k S n;
  there = λ r here. below_there count (suc k) S (suc n) r here;
  back = λ r here. below_back count (suc k) S (suc n) r le here;
}

-- the first k shards were given their sets, and the others nothing
first_of : (T : ℕ → ReferenceSet) (k : ℕ) (old new : List ShardPass) → k ≤ length old
    → EachGives T k old new
    → EachGives (λ i. cond (nat_lt i k) (T i) (set_of_list [])) (length old) old new
first_of T k old new le given =
    let U : ℕ → ReferenceSet = λ i. cond (nat_lt i k) (T i) (set_of_list []) in
    record {
      count = given.count;
      first = λ i lt. elim (below i k) [
        | inl low ↦
            let is : U i ≡ T i = ap (λ b. cond b (T i) (set_of_list [])) (lt-ltb i k low) in
            gives_as (T i) (U i) (shard_pass old i) (shard_pass new i) (sym is) (given.first i low)
        | inr high ↦
            let is : U i ≡ set_of_list [] = ap (λ b. cond b (T i) (set_of_list [])) (le-ltb i k high) in
            gives_as (set_of_list []) (U i) (shard_pass old i) (shard_pass new i) (sym is) (gives_none (shard_pass old i) (shard_pass new i) (given.others i high))
      ];
      others = λ i high. given.others i (omega (arith, high, le));
    }

-- if the first k shards have their parts, and nothing more was given
stopped : (S : ReferenceSet) (k : ℕ) (old mid new : List ShardPass) → k ≤ length old
    → EachGives (λ i. of_shard (length old) i S) k old mid → EachGives nothing (length mid) mid new
    → HasGiven (given_to_first (length old) k S) old new
stopped S k old mid new le given none =
    let count = length old in
    let T = parts_below count k S in
    let rest : EachGives nothing count mid new = subst (λ (n : ℕ). EachGives nothing n mid new) given.count none in
    let all = given_as (λ i. T i ∪ set_of_list []) T count old new (λ i. union_none (T i)) (given_then T nothing count old mid new (first_of (λ i. of_shard count i S) k old mid le given) rest) in
    given_by_sum T (given_to_first count k S) old new all.first (parts_are count k S count le)

-- ---- calls of all shards that stop

no_parts : (S : ReferenceSet) (old : List ShardPass)
    → EachGives (λ i. of_shard (length old) i S) 0 old old
no_parts S old = record { count = refl; first = λ i lt. absurd (omega (arith, lt)); others = λ i le. refl }

-- an entry that fails gave nothing
entry_nothing : (v : VisitState) (k : ℕ) (why : SharedFault) (old new : List ShardPass)
    → k < length old → EntryFails v k why old new → EachGives nothing (length old) old new
entry_nothing v k (Node Memory) old new lt fails =
    one_nothing old new k lt fails.1
    (gives_as (gave_first v.plan true) (set_of_list []) (shard_pass old k) (shard_pass new k) (gave_refused v.plan) (gives_called (shard_pass old k) (shard_pass new k) (Enter (length old) k v) (Entered (as_stopped v)) fails.0))
entry_nothing v k TurnsSpent old new lt fails = one_nothing old new k lt fails.1 (gives_spent (shard_pass old k) (shard_pass new k) fails.0)
entry_nothing v k why old new lt fails = absurd fails

batch_given_all : (id : ℕ) (batch : List Reference) (old new : List ShardPass)
    → IsShardCount (length old) → IsGoneThrough (absorb_visit id (length old) batch) old new
    → HasGiven (set_of_list batch) old new
batch_given_all id batch old new count (w, gone) =
    all_given (set_of_list batch) old new count (batch_given old new (absorb_visit id (length old) batch) w batch (length old) gone.goes refl gone.well (inr (gone.over, refl)))

batch_stopped : (id : ℕ) (batch : List Reference) (k : ℕ) (why : SharedFault)
    (old new : List ShardPass) → VisitFails (absorb_visit id (length old) batch) k why old new
    → HasGiven (given_to_first (length old) k (set_of_list batch)) old new
batch_stopped id batch k why old new (inl none) =
    let S = set_of_list batch in
    subst (λ (n : ℕ). HasGiven (given_to_first (length old) n S) old new) (sym none.0)
    (stopped S 0 old old new (omega arith) (no_parts S old) (given_none (length old) old new none.2))
batch_stopped id batch k why old new (inr (w, stops)) =
    let well : w.stopped ≡ false = names_next w.stopped w.plan k (sym stops.next) in
    let given = batch_given old stops.mid (absorb_visit id (length old) batch) w batch k stops.goes refl well (inl stops.next) in
    stopped (set_of_list batch) k old stops.mid new (omega (arith, stops.there, given.count)) given (entry_nothing w k why stops.mid new stops.there stops.fails)

raise_stopped : (time k : ℕ) (why : SharedFault) (old new : List ShardPass)
    → RaiseFails time k why old new
    → HasGiven (given_to_first (length old) k (only_horizon time)) old new
raise_stopped time k why old new (mid, lt, raised, fails) =
    stopped (only_horizon time) k old mid new (omega (arith, lt)) (raised_each time k old mid raised)
    (fails_each mid new k (Raise time) why (λ w. refl) (omega (arith, lt, raised.count)) fails)

-- ---- visits that raise first

same_trans : (S T U : ReferenceSet) → SameGiven S T → SameGiven T U → SameGiven S U
same_trans S T U one other = record {
  horizon = one.horizon ∙ other.horizon;
  there = λ r here. other.there r (one.there r here);
  back = λ r here. one.back r (other.back r here);
}

first_horizon : (count k : ℕ) (S : ReferenceSet) → (given_to_first count k S).horizon ≤ S.horizon
first_horizon count zero S = omega arith
first_horizon count (suc k) S = omega arith

module _ (count k : ℕ) (S : ReferenceSet) where
  -- the parts below k, and the horizon for the others
  abbrev RaisedBelow : ℕ → ReferenceSet
  RaisedBelow i = cond (nat_lt i k) (of_shard count i S) (only_horizon S.horizon)

  at_time : (i : ℕ) → (RaisedBelow i).horizon ≡ S.horizon
  at_time i = cases (nat_lt i k) refl
    where
      cases : (b : Bool) → nat_lt i k ≡ b → (RaisedBelow i).horizon ≡ S.horizon
      cases true is = rw is refl
      cases false is = rw is refl

  as_given_below : (i : ℕ) → (RaisedBelow i).given ≡ (parts_below count k S i).given
  as_given_below i = cases (nat_lt i k) refl
    where
      cases : (b : Bool) → nat_lt i k ≡ b → (RaisedBelow i).given ≡ (parts_below count k S i).given
      cases true is = rw is refl
      cases false is = rw is refl

  all_at_time : (n : ℕ) → (sum RaisedBelow (suc n)).horizon ≡ S.horizon
  all_at_time zero = omega (arith, at_time 0)
  all_at_time (suc n) = omega (arith, all_at_time n, at_time (suc n))

  all_given_below : (n : ℕ) → (sum RaisedBelow n).given ≡ (sum (parts_below count k S) n).given
  all_given_below zero = refl
  all_given_below (suc n) =
      let one = all_given_below n in
      let last = as_given_below n in
      λ i. one i ++ last i

  -- together they are the horizon, and the parts below k
  raised_are : (n : ℕ) → 0 < n → k ≤ n
      → SameGiven (sum RaisedBelow n) (only_horizon S.horizon ∪ given_to_first count k S)
  raised_are zero some le = absurd (omega (arith, some))
  raised_are (suc n) some le =
      let are = parts_are count k S (suc n) le in
      let is = all_given_below (suc n) in
      record {
        horizon = omega (arith, all_at_time n, first_horizon count k S);
        there = λ r here. are.there r (subst (λ (rs : List Reference). IsIn r rs) is here);
        back = λ r here. subst (λ (rs : List Reference). IsIn r rs) (sym is) (are.back r here);
      }

  -- what a shard was given so
  below_is : (i : ℕ) → (only_horizon S.horizon ∪ cond (nat_lt i k) (part_gave (of_shard count i S) (of_shard count i S).given) (set_of_list [])) ∪ set_of_list []
      ≡ RaisedBelow i
  below_is i =
      union_none (only_horizon S.horizon ∪ cond (nat_lt i k) (part_gave (of_shard count i S) (of_shard count i S).given) (set_of_list []))
      ∙ cases (nat_lt i k)
    where
      cases : (b : Bool) → only_horizon S.horizon ∪ cond b (part_gave (of_shard count i S) (of_shard count i S).given) (set_of_list [])
          ≡ cond b (of_shard count i S) (only_horizon S.horizon)
      cases true = both_parts S.horizon (of_shard count i S) refl
      cases false = union_none (only_horizon S.horizon)

-- a visit that stops after it has raised all shards
parts_up_to : (S : ReferenceSet) (k : ℕ) (why : SharedFault) (old new : List ShardPass)
    (v w : VisitState) → IsShardCount (length old) → (stops : VisitStops v w k why old new)
    → w.stopped ≡ false → k < length old
    → RisenAll old S.horizon (give_plan (length old) S) (visiting w stops.mid)
    → HasGiven (only_horizon S.horizon ∪ given_to_first (length old) k S) old new
parts_up_to S k why old new v w count stops well lt r =
    let n = length old in
    let risen = r.mid.passes in
    let mid = stops.mid in
    let some : 0 < n = some_count n count in
    let long : length risen ≡ n = r.risen.count in
    let parts = parts_then old S w k mid r well (inl stops.next) in
    let below_k : EachGives (λ i. cond (nat_lt i k) (PartGave old S i) (set_of_list [])) n risen mid = subst (λ l. EachGives (λ i. cond (nat_lt i k) (PartGave old S i) (set_of_list [])) l risen mid) long (first_of (PartGave old S) k risen mid (omega (arith, lt, long)) parts) in
    let none : EachGives nothing n mid new = subst (λ l. EachGives nothing l mid new) (parts.count ∙ long) (entry_nothing w k why mid new stops.there stops.fails) in
    let both = given_then (λ i. only_horizon S.horizon) (λ i. cond (nat_lt i k) (PartGave old S i) (set_of_list [])) n old risen mid r.risen below_k in
    let all = given_then (λ i. only_horizon S.horizon ∪ cond (nat_lt i k) (PartGave old S i) (set_of_list [])) nothing n old mid new both none in
    let shared = given_as (λ i. (only_horizon S.horizon ∪ cond (nat_lt i k) (PartGave old S i) (set_of_list [])) ∪ set_of_list []) (RaisedBelow n k S) n old new (below_is n k S) all in
    given_by_sum (RaisedBelow n k S) (only_horizon S.horizon ∪ given_to_first n k S) old new shared.first (raised_are n k S n some (omega (arith, lt)))

-- so of one that reads then
horizon_up_to : (count k time : ℕ)
    → SameGiven (only_horizon time) (only_horizon time ∪ given_to_first count k (only_horizon time))
horizon_up_to count zero time = record {
  horizon = omega arith;
  there = λ r here. here;
  back = λ r here. here;
}
horizon_up_to count (suc k) time = record {
  horizon = omega arith;
  there = λ r here. here;
  back = λ r here. here;
}

reads_up_to : (time : ℕ) (rest : List Errand) (k : ℕ) (why : SharedFault) (old new : List ShardPass)
    (v w : VisitState) → IsShardCount (length old) → AsksNone rest
    → (stops : VisitStops v w k why old new) → RisenAll old time rest (visiting w stops.mid)
    → HasGiven (only_horizon time ∪ given_to_first (length old) k (only_horizon time)) old new
reads_up_to time rest k why old new v w count asks stops r =
    let n = length old in
    let mid = stops.mid in
    let risen : EachGives (λ i. only_horizon time) n old mid = risen_read old time rest asks (visiting w mid) r in
    let none : EachGives nothing n mid new = subst (λ l. EachGives nothing l mid new) risen.count (entry_nothing w k why mid new stops.there stops.fails) in
    let all = given_as (λ i. only_horizon time ∪ set_of_list []) (λ i. only_horizon time) n old new (λ i. union_none (only_horizon time)) (given_then (λ i. only_horizon time) nothing n old mid new risen none) in
    let gave = all_given (only_horizon time) old new count all in
    (gave.0, gave.1, same_trans (gave_together gave.0) (only_horizon time) (only_horizon time ∪ given_to_first n k (only_horizon time)) gave.2 (horizon_up_to n k time))

-- a visit that stops while it raises gave the horizon to the shards before
risen_up_to : (time k j : ℕ) (why : SharedFault) (old new : List ShardPass) (v w : VisitState)
    → (stops : VisitStops v w k why old new) → next_shard w ≡ Some j → j < length old
    → EachGives (λ i. only_horizon time) j old stops.mid
    → HasGiven (given_to_first (length old) k (only_horizon time)) old new
risen_up_to time k j why old new v w stops next lt risen =
    let both : Some j ≡ Some k = sym next ∙ stops.next in
    let same : j ≡ k = cc in
    subst (λ l. HasGiven (given_to_first (length old) l (only_horizon time)) old new) same
    (stopped (only_horizon time) j old stops.mid new (omega (arith, lt)) risen (entry_nothing w k why stops.mid new stops.there stops.fails))

-- what it gave in a later stage
in_stage : (stage : Stage) (k : ℕ) (S : ReferenceSet) (old new : List ShardPass) → stage ≢ Raising
    → HasGiven (only_horizon S.horizon ∪ given_to_first (length old) k S) old new
    → HasGiven (given_up_to stage (length old) k S) old new
in_stage Raising k S old new later gave = absurd (later refl)
in_stage stage k S old new later gave = gave

-- what it gave while it raised
while_raising : (stage : Stage) (k : ℕ) (S : ReferenceSet) (old new : List ShardPass)
    → Some Raising ≡ Some stage
    → HasGiven (given_to_first (length old) k (only_horizon S.horizon)) old new
    → HasGiven (given_up_to stage (length old) k S) old new
while_raising stage k S old new is gave =
    let same : Raising ≡ stage = cc in
    subst (λ (s : Stage). HasGiven (given_up_to s (length old) k S) old new) same gave

-- if no memory was left for the visit, it gave nothing
none_up_to : (S : ReferenceSet) (stage : Stage) (k : ℕ) (old new : List ShardPass)
    → stage ≡ Raising → k ≡ 0 → new ≡ old → HasGiven (given_up_to stage (length old) k S) old new
none_up_to S stage k old new raising first same =
    let T = only_horizon S.horizon in
    subst (λ (s : Stage). HasGiven (given_up_to s (length old) k S) old new) (sym raising)
    (subst (λ (n : ℕ). HasGiven (given_to_first (length old) n T) old new) (sym first)
    (stopped T 0 old old new (omega arith) (no_parts T old) (given_none (length old) old new same)))

gives_up_to : (S : ReferenceSet) (stage : Stage) (k : ℕ) (why : SharedFault)
    (old new : List ShardPass) (v : VisitState) → IsShardCount (length old)
    → v.plan ≡ raise_plan (length old) S.horizon ++ give_plan (length old) S
    → StageFails v stage k why old new → HasGiven (given_up_to stage (length old) k S) old new
gives_up_to S stage k why old new v count plan (inl none) =
    none_up_to S stage k old new none.0 none.1 none.3
gives_up_to S stage k why old new v count plan (inr (w, stops, at)) =
    let well : w.stopped ≡ false = names_next w.stopped w.plan k (sym stops.next) in
    let rest = give_plan (length old) S in
    elim (raises old S.horizon rest v w stops.mid stops.goes plan well) [
      | inl r ↦
          let there : k < length old = subst (λ l. k < l) ((parts_then old S w k stops.mid r well (inl stops.next)).count ∙ r.risen.count) stops.there in
          in_stage stage k S old new (risen_stage old S.horizon rest stage (never_given (length old) S) (visiting w stops.mid) r at) (parts_up_to S k why old new v w count stops well there r)
      | inr some ↦
          while_raising stage k S old new (sym some.1.raising ∙ at) (risen_up_to S.horizon k some.0 why old new v w stops some.1.next some.1.below some.1.risen)
    ]

reading_up_to : (time : ℕ) (rest : List Errand) (stage : Stage) (k : ℕ) (why : SharedFault)
    (old new : List ShardPass) (v : VisitState) → IsShardCount (length old) → AsksNone rest
    → NeverRaises rest → v.plan ≡ raise_plan (length old) time ++ rest
    → StageFails v stage k why old new
    → HasGiven (given_up_to stage (length old) k (only_horizon time)) old new
reading_up_to time rest stage k why old new v count asks never plan (inl none) =
    none_up_to (only_horizon time) stage k old new none.0 none.1 none.3
reading_up_to time rest stage k why old new v count asks never plan (inr (w, stops, at)) =
    let well : w.stopped ≡ false = names_next w.stopped w.plan k (sym stops.next) in
    let S = only_horizon time in
    elim (raises old time rest v w stops.mid stops.goes plan well) [
      | inl r ↦
          in_stage stage k S old new (risen_stage old time rest stage never (visiting w stops.mid) r at) (reads_up_to time rest k why old new v w count asks stops r)
      | inr some ↦
          while_raising stage k S old new (sym some.1.raising ∙ at) (risen_up_to time k some.0 why old new v w stops some.1.next some.1.below some.1.risen)
    ]

-- ---- messages

received_all : (id : ℕ) (message : Message) (old new : List ShardPass) → IsShardCount (length old)
    → IsGoneThrough (receive_visit id (length old) message) old new
    → HasGiven (refs_in message) old new
received_all id (Entries sender time entries) old new count (w, gone) =
    let S = refs_in (Entries sender time entries) in
    all_given S old new count (all_both old new (receive_visit id (length old) (Entries sender time entries)) w gone.goes gone.well gone.over S refl)
received_all id (Want sender time request) old new count (w, gone) =
    all_given (only_horizon time) old new count (all_risen old new (receive_visit id (length old) (Want sender time request)) w gone.goes gone.well gone.over time (send_plan (length old) request) (asks_sends (length old) (requested_buckets request)) refl)
received_all id (Digest sender time digests) old new count (w, gone) =
    all_given (only_horizon time) old new count (all_risen old new (receive_visit id (length old) (Digest sender time digests)) w gone.goes gone.well gone.over time (at_each (length old) offering) (asks_each offering (λ b. refl) (length old)) refl)

receipt_up_to : (id : ℕ) (message : Message) (stage : Stage) (k : ℕ) (why : SharedFault)
    (old new : List ShardPass) → IsShardCount (length old)
    → StageFails (receive_visit id (length old) message) stage k why old new
    → HasGiven (given_up_to stage (length old) k (refs_in message)) old new
receipt_up_to id (Entries sender time entries) stage k why old new count fails =
    gives_up_to (refs_in (Entries sender time entries)) stage k why old new (receive_visit id (length old) (Entries sender time entries)) count refl fails
receipt_up_to id (Want sender time request) stage k why old new count fails =
    reading_up_to time (send_plan (length old) request) stage k why old new (receive_visit id (length old) (Want sender time request)) count (asks_sends (length old) (requested_buckets request)) (never_sent (length old) (requested_buckets request)) refl fails
receipt_up_to id (Digest sender time digests) stage k why old new count fails =
    reading_up_to time (at_each (length old) offering) stage k why old new (receive_visit id (length old) (Digest sender time digests)) count (asks_each offering (λ b. refl) (length old)) (never_offered (length old)) refl fails

-- ---- the law

pub threads_give : ThreadsGive
threads_give old new count = record {
  absorbed = λ id batch so. batch_given_all id batch old new count so;
  batch_stopped = λ id batch k why so. batch_stopped id batch k why old new so;
  raised = λ time so. all_given (only_horizon time) old new count (raised_each time (length old) old new so);
  raise_stopped = λ time k why so. raise_stopped time k why old new so;
  received = λ id message so. received_all id message old new count so;
  receipt_stopped = λ id message stage k why so. receipt_up_to id message stage k why old new count so;
  joined = λ id h so. all_given (references_of h) old new count (all_both old new (join_visit id (length old) h) so.0 so.1.goes so.1.well so.1.over (references_of h) refl);
  join_stopped = λ id h stage k why so. gives_up_to (references_of h) stage k why old new (join_visit id (length old) h) count refl so;
  called = λ i call reply lt so. called_given old new i call reply lt so;
  refused = λ i call why lt fails. gave_nothing (length old) old new (fails_each old new i call why (gave_none call) lt fails);
  done = λ call k none so. gave_nothing k old new (as_given (Does call) nothing k old new (λ i p q r. gives_as (gave_call call Done) (set_of_list []) p q none (gives_called p q call Done r)) so);
  offered = λ id w goes. gave_nothing (length old) old new (reads_nothing (visiting (offer_visit id (length old)) old) (visiting w new) goes.0 (asks_each offering (λ b. refl) (length old)) goes.1);
  copied = λ id w goes. gave_nothing (length old) old new (reads_nothing (visiting (copy_visit id (length old)) old) (visiting w new) goes.0 (asks_each copying (λ b. refl) (length old)) goes.1);
}

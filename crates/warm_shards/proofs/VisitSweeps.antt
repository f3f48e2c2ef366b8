-- A visit that nobody interrupts: all shards are raised, and then each is given its part.
use Rattle.std.proofs.Common.{◌≡◌, ◌≢◌, ◌⊎◌, inl, inr, ℕ, zero, suc, ◌+◌, ◌<◌, Bool, true, false, List, [], ◌∷◌, ◌++◌, length, max, min, set, refl, sym, ap, subst, ◌∙◌, arith}
use Rattle.std.specs.Prelude.{None, Some}
use Rattle.std.proofs.lemmas.List.{append-nil, get_or-set_same}
use Rattle.warm_stamps.specs.declared.Reference.{Reference}
use Rattle.warm_history.specs.ReferenceSets.{ReferenceSet, set_of_list, ◌∪◌}
use Rattle.warm_history.specs.Histories.{HistoryView, references_of}
use Rattle.warm_history.proofs.HistoryLemmas.{horizon-history}
use Rattle.warm_machine.specs.declared.operation.Operation.{Operation}
use Rattle.warm_machine.specs.Runs.{Runs}
use Rattle.warm_gossip.specs.declared.fault.NodeFault.TheVariants.{Memory}
use Rattle.warm_gossip.specs.State.{NodeState, NodeView}
use Rattle.warm_shards.specs.Given.{AreGiven, Gives}
use Rattle.warm_visits.specs.Given.{IsGiven, IsSame, at_horizon}
use Rattle.warm_shards.specs.Shards.{AreShards, no_shard, shard_at, whole}
use Rattle.warm_visits.specs.ShardNumbers.{of_shard}
use Rattle.warm_shards.specs.VisitLaws.{Alone, EntersAlone, GoesAlone, alone}
use Rattle.warm_visits.specs.Plans.{give_from, raise_from}
use Rattle.warm_visits.specs.Visits.{After, Errand, Made, NodeSays, Said, Takes, VisitState, absorb_visit, at_shard, begun, copied, ends, give_plan, give_visit, given, giving, keeps, kept_of, next_shard, nothing, offered, onward, raise_plan, raise_visit, raised, refused, result_of, sent, shard_next}
use Rattle.warm_shards.proofs.AreShardsLemmas.{some_shards}
use Rattle.warm_shards.proofs.Buckets.{shard_horizon}
use Rattle.warm_shards.proofs.GivenLemmas.{GivenFirst, IsNoLater, given_all, given_more, given_past, given_stays, gives_all, gives_first, none_given, raised_gives, raised_late, whole_given}
use Rattle.warm_visits.proofs.VisitPlans.{give_end, give_here, give_past as plan_past, raise_begun, raise_end, raise_here}
use Rattle.warm_visits.proofs.PlanGiven.{empty_or_not, give_all}

-- ---- one entry

-- the node has taken S in, or had no memory
pub record Given (S : ReferenceSet) (v : VisitState) (rest : List Errand) (n : NodeState)
    (w : VisitState) (m : NodeState) : Type 0 where
  pub is : IsGiven S n m
  pub takes : w ≡ onward v rest (keeps v.made m.history.horizon)

pub record Refused (S : ReferenceSet) (v : VisitState) (n : NodeState) (w : VisitState)
    (m : NodeState) : Type 0 where
  pub some : S.given ≢ []
  pub same : IsSame n m
  pub takes : w ≡ record v { stopped = true }

said_so : (S : ReferenceSet) (v w : VisitState) (i : ℕ) (rest : List Errand) (n m : NodeState)
    (said : Said) → NodeSays n (giving S) said m → Takes v i (giving S) rest said w
    → Given S v rest n w m ⊎ Refused S v n w m
said_so S v w i rest n m (given horizon) says takes =
    inl (record { is = says.0; takes = takes ∙ ap (λ h. onward v rest (keeps v.made h)) says.1 })
said_so S v w i rest n m refused says takes = inr (record { some = says.0; same = says.1; takes = takes })
said_so S v w i rest n m (offered horizon table) says takes = absurd says
said_so S v w i rest n m (sent message more) says takes = absurd says
said_so S v w i rest n m (copied h) says takes = absurd says

-- what a visit says that is to give S to a shard next
pub entry_gives : (s y : Alone) (i : ℕ) (S : ReferenceSet) (rest : List Errand) (e : Errand)
    (said : Said) → s.visit.plan ≡ at_shard i (giving S) ∷ rest → EntersAlone s e said y
    → (Given S s.visit rest (shard_at s.shards i) y.visit (shard_at y.shards i)
    ⊎ Refused S s.visit (shard_at s.shards i) y.visit (shard_at y.shards i))
    × (y.shards ≡ set s.shards i (shard_at y.shards i))
entry_gives s y i S rest e said plan (enters, set_to) =
    let is : e ∷ enters.rest ≡ at_shard i (giving S) ∷ rest = sym enters.next ∙ plan in
    let here : e ≡ at_shard i (giving S) = cc in
    let later : enters.rest ≡ rest = cc in
    let says : NodeSays (shard_at s.shards i) (giving S) said (shard_at y.shards i) = subst (λ (x : Errand). NodeSays (shard_at s.shards x.shard) x.ask said (shard_at y.shards x.shard)) here enters.says in
    let takes : Takes s.visit i (giving S) rest said y.visit = subst (λ (es : List Errand). Takes s.visit i (giving S) es said y.visit) later (subst (λ (x : Errand). Takes s.visit x.shard x.ask enters.rest said y.visit) here enters.takes) in
    (said_so S s.visit y.visit i rest (shard_at s.shards i) (shard_at y.shards i) said says takes, subst (λ (x : Errand). y.shards ≡ set s.shards x.shard (shard_at y.shards x.shard)) here set_to)

-- a visit is over that has no errand left, or was refused
pub over_empty : (s t : Alone) (es : List (Operation Errand Said)) → s.visit.plan ≡ []
    → Runs EntersAlone s es t → s ≡ t
over_empty s t [] none runs = runs
over_empty s t (e ∷ es) none (y, entry, runs) =
    let no : e.call ∷ entry.0.rest ≡ [] = sym entry.0.next ∙ none in absurd (cc)

pub over_stopped : (s t : Alone) (es : List (Operation Errand Said)) → s.visit.stopped ≡ true
    → Runs EntersAlone s es t → s ≡ t
over_stopped s t [] is runs = runs
over_stopped s t (e ∷ es) is (y, entry, runs) =
    let no : true ≡ false = sym is ∙ entry.0.ready in absurd (cc)

-- and not before
not_over : (id count : ℕ) (e : Errand) (rest : List Errand) (plan : List Errand) (made : Made)
    (after : After) (t : Alone) → plan ≡ e ∷ rest → t.visit ≡ begun id count plan made after
    → next_shard t.visit ≡ None → ⊥
not_over id count e rest plan made after t is at none =
    let no : None ≡ Some e.shard = sym none ∙ ap next_shard at ∙ ap (shard_next false) is in absurd (cc)

-- ---- all shards are raised

-- what such a visit keeps, shard by shard
abbrev pub Keeping : (ℕ → Made) → ℕ → Type 0
Keeping made horizon = (k : ℕ) → keeps (made k) horizon ≡ made (k + 1)

abbrev pub latest : List NodeState → ℕ → ℕ
latest old time = max (shard_at old 0).history.horizon time

-- the first k shards are raised
record Rising (id : ℕ) (old : List NodeState) (time k : ℕ) (rest : List Errand) (made : ℕ → Made)
    (after : After) (s : Alone) : Type 0 where
  risen : GivenFirst (at_horizon time) k old s.shards
  visit : s.visit ≡ begun id (length old) (raise_from (length old) time k ++ rest) (made k) after

-- the visit has no shard left to be raised
pub record Risen (id : ℕ) (old : List NodeState) (time : ℕ) (rest : List Errand) (made : Made)
    (after : After) (t : Alone) : Type 0 where
  pub mid : Alone
  pub entries : List (Operation Errand Said)
  pub raised : AreGiven (at_horizon time) old mid.shards
  pub visit : mid.visit ≡ begun id (length old) rest made after
  pub runs : Runs EntersAlone mid entries t

-- a node that was raised has the latest horizon
raised_to : (time : ℕ) (n m : NodeState) → IsGiven (at_horizon time) n m
    → m.history.horizon ≡ max n.history.horizon time
raised_to time n m is =
    ap (λ (v : NodeView). v.history.horizon) is.0 ∙ horizon-history (references_of n.history ∪ at_horizon time)

rises_one : (id : ℕ) (old : List NodeState) (time k : ℕ) (rest : List Errand) (made : ℕ → Made)
    (after : After) (s y : Alone) (e : Errand) (said : Said) → AreShards old → k < length old
    → Keeping made (latest old time) → Rising id old time k rest made after s
    → EntersAlone s e said y → Rising id old time (k + 1) rest made after y
rises_one id old time k rest made after s y e said are lt keeping have entry =
    let later = raise_from (length old) time (k + 1) ++ rest in
    let plan : s.visit.plan ≡ at_shard k (giving (at_horizon time)) ∷ later = ap (λ (v : VisitState). v.plan) have.visit ∙ ap (λ es. es ++ rest) (raise_here (length old) time k lt) in
    let m = shard_at y.shards k in
    let so = entry_gives s y k (at_horizon time) later e said plan entry in
    elim so.0 [
      | inl gave ↦
          let risen = given_more (at_horizon time) (at_horizon time) k old s.shards (shard_at s.shards k) m no_shard (omega (arith, have.risen.count, lt)) refl refl gave.is have.risen in
          let o = are.each k lt in
          let to : m.history.horizon ≡ latest old time = ap (λ (n : NodeState). n.history.horizon) (sym (get_or-set_same s.shards k m no_shard (omega (arith, have.risen.count, lt)))) ∙ raised_to time (shard_at old k) (shard_at (set s.shards k m) k) (risen.first k (omega arith)) ∙ ap (λ h. max h time) o.horizon in
          record {
            risen = subst (GivenFirst (at_horizon time) (k + 1) old) (sym so.1) risen;
            visit = gave.takes
                ∙ ap (λ (v : VisitState). onward v later (keeps v.made m.history.horizon)) have.visit
                ∙ ap (λ h. begun id (length old) later (keeps (made k) h) after) to
                ∙ ap (λ x. begun id (length old) later x after) (keeping k);
          }
      | inr says ↦ absurd (says.some refl)
    ]

rises_all : (n k id : ℕ) (old : List NodeState) (time : ℕ) (rest : List Errand) (made : ℕ → Made)
    (after : After) (s t : Alone) (es : List (Operation Errand Said)) → k + n ≡ length old
    → AreShards old → Keeping made (latest old time) → Rising id old time k rest made after s
    → Runs EntersAlone s es t → next_shard t.visit ≡ None
    → Risen id old time rest (made (length old)) after t
rises_all zero k id old time rest made after s t es is are keeping have runs over =
    let all : k ≡ length old = omega (arith, is) in
    record {
      mid = s;
      entries = es;
      raised = given_all (at_horizon time) old s.shards are (record { count = have.risen.count; each = λ i lt. have.risen.first i (omega (arith, all, lt)) });
      visit = have.visit ∙ ap (λ es. begun id (length old) (es ++ rest) (made k) after) (raise_end (length old) time k (omega (arith, all))) ∙ ap (λ x. begun id (length old) rest (made x) after) all;
      runs = runs;
    }
rises_all (suc n) k id old time rest made after s t [] is are keeping have runs over =
    let at : t.visit ≡ begun id (length old) (raise_from (length old) time k ++ rest) (made k) after = ap (λ (x : Alone). x.visit) (sym runs) ∙ have.visit in
    absurd (not_over id (length old) (at_shard k (giving (at_horizon time))) (raise_from (length old) time (k + 1) ++ rest) (raise_from (length old) time k ++ rest) (made k) after t (ap (λ es. es ++ rest) (raise_here (length old) time k (omega (arith, is)))) at over)
rises_all (suc n) k id old time rest made after s t (e ∷ es) is are keeping have (y, entry, runs) over =
    rises_all n (k + 1) id old time rest made after y t es (omega (arith, is)) are keeping (rises_one id old time k rest made after s y e.call e.reply are (omega (arith, is)) keeping have entry) runs over

-- A visit that first raises all shards, and has others left then, has raised them when it is over.
pub raises_first : (id : ℕ) (old : List NodeState) (time : ℕ) (rest : List Errand)
    (made : ℕ → Made) (after : After) (t : Alone) (es : List (Operation Errand Said))
    → AreShards old → Keeping made (latest old time)
    → Runs EntersAlone (alone (begun id (length old) (raise_plan (length old) time ++ rest) (made 0) after) old) es t
    → next_shard t.visit ≡ None → Risen id old time rest (made (length old)) after t
raises_first id old time rest made after t es are keeping runs over =
    rises_all (length old) 0 id old time rest made after (alone (begun id (length old) (raise_plan (length old) time ++ rest) (made 0) after) old) t es (omega arith) are keeping (record {
      risen = none_given (at_horizon time) old;
      visit = ap (λ plan. begun id (length old) (plan ++ rest) (made 0) after) (sym (raise_begun (length old) time));
    }) runs over

-- ---- each is given its part

-- the call returned so
pub record Gave (S : ReferenceSet) (old : List NodeState) (made : Made) (after : After) (t : Alone)
    : Type 0 where
  pub gives : Gives S old (result_of t.visit.stopped) t.shards
  pub makes : t.visit.made ≡ made
  pub ends : t.visit.after ≡ after

abbrev parts_of : List NodeState → ReferenceSet → ℕ → ReferenceSet
parts_of old S i = of_shard (length old) i S

abbrev Left : ℕ → List NodeState → ReferenceSet → ℕ → Made → After → VisitState
Left id old S k made after = begun id (length old) (give_from (length old) (parts_of old S) k) made after

-- the visit was refused at shard k
refused_at : (id k : ℕ) (old : List NodeState) (S : ReferenceSet) (made : Made) (after : After)
    (s y t : Alone) (es : List (Operation Errand Said)) → AreShards old → IsNoLater S old
    → k < length old → GivenFirst S k old s.shards → s.visit ≡ Left id old S k made after
    → Refused (parts_of old S k) s.visit (shard_at s.shards k) y.visit (shard_at y.shards k)
    → y.shards ≡ set s.shards k (shard_at y.shards k) → Runs EntersAlone y es t
    → Gave S old made after t
refused_at id k old S made after s y t es are le lt have at says set_to runs =
    let here : y.visit ≡ record (Left id old S k made after) { stopped = true } = says.takes ∙ ap (λ (v : VisitState). let w : VisitState = record v { stopped = true } in w) at in
    let stopped : y.visit.stopped ≡ true = ap (λ (v : VisitState). v.stopped) here in
    let stays = subst (GivenFirst S k old) (sym set_to) (given_stays S k k old s.shards (shard_at s.shards k) (shard_at y.shards k) no_shard (omega (arith, have.count, lt)) (omega arith) refl says.same have) in
    subst (Gave S old made after) (over_stopped y t es stopped runs) (record {
      gives = subst (λ (b : Bool). Gives S old (result_of b) y.shards) (sym stopped) (gives_first S k old y.shards Memory are le refl lt (inr says.some) stays);
      makes = ap (λ (v : VisitState). v.made) here;
      ends = ap (λ (v : VisitState). v.after) here;
    })

-- shard k is given its part, and then the others
gives_next : (k id : ℕ) (old : List NodeState) (S : ReferenceSet) (made : Made) (after : After)
    (s t : Alone) (es : List (Operation Errand Said)) → k < length old → AreShards old
    → IsNoLater S old → ((horizon : ℕ) → keeps made horizon ≡ made) → GivenFirst S k old s.shards
    → s.visit ≡ Left id old S k made after → (parts_of old S k).given ≢ []
    → ((y : Alone) (es : List (Operation Errand Said)) → GivenFirst S (k + 1) old y.shards
    → y.visit ≡ Left id old S (k + 1) made after → Runs EntersAlone y es t → Gave S old made after t)
    → Runs EntersAlone s es t → next_shard t.visit ≡ None → Gave S old made after t
gives_next k id old S made after s t [] lt are le quiet have at some next runs over =
    let plan = give_here (length old) (parts_of old S) k lt some in
    absurd (not_over id (length old) (at_shard k (giving (parts_of old S k))) (give_from (length old) (parts_of old S) (k + 1)) (give_from (length old) (parts_of old S) k) made after t plan (ap (λ (x : Alone). x.visit) (sym runs) ∙ at) over)
gives_next k id old S made after s t (e ∷ es) lt are le quiet have at some next (y, entry, runs) over =
    let plan = give_here (length old) (parts_of old S) k lt some in
    let later = give_from (length old) (parts_of old S) (k + 1) in
    let m = shard_at y.shards k in
    let so = entry_gives s y k (parts_of old S k) later e.call e.reply (ap (λ (v : VisitState). v.plan) at ∙ plan) entry in
    elim so.0 [
      | inl gave ↦ next y es (subst (GivenFirst S (k + 1) old) (sym so.1) (given_more S (parts_of old S k) k old s.shards (shard_at s.shards k) m no_shard (omega (arith, have.count, lt)) refl refl gave.is have)) (gave.takes ∙ ap (λ (v : VisitState). onward v later (keeps v.made m.history.horizon)) at ∙ ap (λ x. begun id (length old) later x after) (quiet m.history.horizon)) runs
      | inr says ↦ refused_at id k old S made after s y t es are le lt have at says so.1 runs
    ]

gives_on : (n k id : ℕ) (old : List NodeState) (S : ReferenceSet) (made : Made) (after : After)
    (s t : Alone) (es : List (Operation Errand Said)) → k + n ≡ length old → AreShards old
    → IsNoLater S old → ((horizon : ℕ) → keeps made horizon ≡ made) → GivenFirst S k old s.shards
    → s.visit ≡ Left id old S k made after → Runs EntersAlone s es t → next_shard t.visit ≡ None
    → Gave S old made after t
gives_on zero k id old S made after s t es is are le quiet have at runs over =
    let none : s.visit.plan ≡ [] = ap (λ (v : VisitState). v.plan) at ∙ give_end (length old) (parts_of old S) k (omega (arith, is)) in
    subst (Gave S old made after) (over_empty s t es none runs) (record {
      gives = subst (λ (b : Bool). Gives S old (result_of b) s.shards) (ap (λ (v : VisitState). v.stopped) (sym at)) (gives_all S k old s.shards tt are (omega (arith, is)) have);
      makes = ap (λ (v : VisitState). v.made) at;
      ends = ap (λ (v : VisitState). v.after) at;
    })
gives_on (suc n) k id old S made after s t es is are le quiet have at runs over =
    elim (empty_or_not (parts_of old S k).given) [
      | inl none ↦
          gives_on n (k + 1) id old S made after s t es (omega (arith, is)) are le quiet
          (given_past S (parts_of old S k) k old s.shards are (omega (arith, is)) le refl none have)
          (at ∙ ap (λ plan. begun id (length old) plan made after) (plan_past (length old) (parts_of old S) k (omega (arith, is)) none)) runs over
      | inr some ↦ gives_next k id old S made after s t es (omega (arith, is)) are le quiet have at some (λ y es more now runs. gives_on n (k + 1) id old S made after y t es (omega (arith, is)) are le quiet more now runs over) runs over
    ]

-- a visit that gives parts to shards that have the horizon
pub alone_parts : (old new : List NodeState) (w : VisitState) (S : ReferenceSet) (made : Made)
    (after : After) (id : ℕ) (es : List (Operation Errand Said)) → AreShards old → IsNoLater S old
    → ((horizon : ℕ) → keeps made horizon ≡ made)
    → Runs EntersAlone (alone (begun id (length old) (give_plan (length old) S) made after) old) es (alone w new)
    → next_shard w ≡ None → Gave S old made after (alone w new)
alone_parts old new w S made after id es are le quiet runs over =
    gives_on (length old) 0 id old S made after (alone (begun id (length old) (give_plan (length old) S) made after) old) (alone w new) es (omega arith) are le quiet (none_given S old)
    (ap (λ plan. begun id (length old) plan made after) (give_all (length old) S)) runs over

-- a batch
pub alone_absorbs : (old new : List NodeState) (w : VisitState) (batch : List Reference)
    (id count : ℕ) → AreShards old → count ≡ length old
    → GoesAlone (absorb_visit id count batch) old w new → next_shard w ≡ None
    → Gives (set_of_list batch) old (result_of w.stopped) new
alone_absorbs old new w batch id count are is gone over =
    let all = subst (λ n. GoesAlone (absorb_visit id n batch) old w new) is gone in
    (alone_parts old new w (set_of_list batch) nothing ends id all.0 are (omega arith) (λ h. refl) all.1 over).gives

-- a horizon
abbrev risen_made : ℕ → ℕ → Made
risen_made horizon zero = raised None
risen_made horizon (suc k) = raised (Some horizon)

risen_later : (horizon k : ℕ) → risen_made horizon (k + 1) ≡ raised (Some horizon)
risen_later horizon k = let more : k + 1 ≡ suc k = omega arith in ap (risen_made horizon) more

risen_some : (horizon k : ℕ) → 0 < k → risen_made horizon k ≡ raised (Some horizon)
risen_some horizon zero some = absurd (omega arith)
risen_some horizon (suc k) some = refl

risen_keeps : (horizon k : ℕ) → keeps (risen_made horizon k) horizon ≡ risen_made horizon (k + 1)
risen_keeps horizon zero = sym (risen_later horizon zero)
risen_keeps horizon (suc k) =
    let same : min horizon horizon ≡ horizon = omega arith in
    ap (λ h. raised (Some h)) same ∙ sym (risen_later horizon (suc k))

pub record Rose (old : List NodeState) (time : ℕ) (w : VisitState) (new : List NodeState)
    : Type 0 where
  pub given : AreGiven (at_horizon time) old new
  pub well : w.stopped ≡ false
  pub kept : kept_of w.made ≡ Some (whole new).horizon

-- the latest horizon is that of all then
latest_is : (old new : List NodeState) (time : ℕ) → AreShards old
    → AreGiven (at_horizon time) old new → latest old time ≡ (whole new).horizon
latest_is old new time are rose =
    let some = some_shards old are in
    let was : (shard_at old 0).history.horizon ≡ (whole old).horizon = shard_horizon old 0 are some some in
    let is : (whole new).horizon ≡ max (whole old).horizon time = ap (λ (h : HistoryView). h.horizon) (whole_given (at_horizon time) old new rose) ∙ horizon-history (references_of (whole old) ∪ at_horizon time) in
    ap (λ h. max h time) was ∙ sym is

pub alone_raises : (old new : List NodeState) (v w : VisitState) (id count time : ℕ) → AreShards old
    → v ≡ raise_visit id count time → count ≡ length old → GoesAlone v old w new → next_shard w ≡ None
    → Rose old time w new
alone_raises old new v w id count time are visit is gone over =
    let all = subst (λ (x : VisitState). GoesAlone x old w new) (visit ∙ ap (λ n. raise_visit id n time) is) gone in
    let begins : alone (raise_visit id (length old) time) old ≡ alone (begun id (length old) (raise_plan (length old) time ++ []) (raised None) ends) old = ap (λ es. alone (begun id (length old) es (raised None) ends) old) (sym (append-nil (raise_plan (length old) time))) in
    let risen = raises_first id old time [] (risen_made (latest old time)) ends (alone w new) all.0 are (risen_keeps (latest old time)) (subst (λ s. Runs EntersAlone s all.0 (alone w new)) begins all.1) over in
    let same = over_empty risen.mid (alone w new) risen.entries (ap (λ (v : VisitState). v.plan) risen.visit) risen.runs in
    let at : w ≡ begun id (length old) [] (risen_made (latest old time) (length old)) ends = ap (λ (s : Alone). s.visit) (sym same) ∙ risen.visit in
    let rose : AreGiven (at_horizon time) old new = subst (λ (s : Alone). AreGiven (at_horizon time) old s.shards) same risen.raised in
    record {
      given = rose;
      well = ap (λ (v : VisitState). v.stopped) at;
      kept = ap (λ (v : VisitState). kept_of v.made) at ∙ ap kept_of (risen_some (latest old time) (length old) (some_shards old are)) ∙ ap (λ h. Some h) (latest_is old new time are rose);
    }

-- references at a horizon: all are raised, and then each is given its part
pub record GaveAll (S : ReferenceSet) (old : List NodeState) (w : VisitState) (new : List NodeState)
    : Type 0 where
  pub gives : Gives S old (result_of w.stopped) new
  pub makes : w.made ≡ nothing
  pub ends : w.after ≡ ends

pub alone_gives : (old new : List NodeState) (w : VisitState) (S : ReferenceSet) (id count : ℕ)
    → AreShards old → count ≡ length old → GoesAlone (give_visit id count S) old w new
    → next_shard w ≡ None → GaveAll S old w new
alone_gives old new w S id count are is gone over =
    let all = subst (λ n. GoesAlone (give_visit id n S) old w new) is gone in
    let risen = raises_first id old S.horizon (give_plan (length old) S) (λ k. nothing) ends (alone w new) all.0 are (λ k. refl) all.1 over in
    let mid = risen.mid.shards in
    let long : length old ≡ length mid = sym risen.raised.pools.count in
    let at : risen.mid ≡ alone (begun id (length mid) (give_plan (length mid) S) nothing ends) mid = λ i. alone ((risen.visit ∙ ap (λ n. begun id n (give_plan n S) nothing ends) long) i) mid in
    let gave = alone_parts mid new w S nothing ends id risen.entries risen.raised.shards (raised_late old mid S.horizon risen.raised) (λ h. refl) (subst (λ s. Runs EntersAlone s risen.entries (alone w new)) at risen.runs) over in
    record {
      gives = raised_gives old mid new S.horizon S (result_of w.stopped) refl risen.raised gave.gives;
      makes = gave.makes;
      ends = gave.ends;
    }

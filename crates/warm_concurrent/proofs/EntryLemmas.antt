-- One entry of a visit by a turn: what the answer of the shard says of it.
use Rattle.std.proofs.Common.{◌≡◌, ◌≢◌, inl, inr, ℕ, ◌<◌, Bool, true, false, List, [], ◌∷◌, ◌++◌, length, refl, sym, ap, subst, ◌∙◌}
use Rattle.std.specs.Prelude.{Some, None}
use Rattle.warm_machine.specs.Runs.{operation}
use Rattle.warm_frames.specs.declared.message.Message.{Message}
use Rattle.warm_frames.specs.declared.message.Message.TheVariants.{Digest, Entries, Want}
use Rattle.warm_gossip.specs.declared.fault.NodeFault.{NodeFault}
use Rattle.warm_gossip.specs.declared.fault.NodeFault.TheVariants.{Memory}
use Rattle.warm_gossip.specs.State.{NodeState}
use Rattle.warm_visits.specs.ShardNumbers.{IsShardCount}
use Rattle.warm_visits.specs.Stages.{next_stage}
use Rattle.warm_visits.specs.Laws.{AreOwnErrands, EntersAny}
use Rattle.warm_visits.specs.Visits.{Errand, HasEntered, VisitState, receive_visit, shard_next}
use Rattle.warm_visits.proofs.RunLemmas.{runs_more}
use Rattle.warm_visits.proofs.VisitErrands.{errands_are_own}
use Rattle.warm_visits.proofs.VisitGiven.{taken_gives}
use Rattle.warm_shards.proofs.VisitLemmas.{named}
use Rattle.warm_shard_machine.specs.Entering.{IsNextAt, IsOnward}
use Rattle.warm_shard_machine.specs.ShardSteps.{MayAnswer}
use Rattle.warm_shard_machine.specs.declared.calls.ShardCall.{ShardCall}
use Rattle.warm_shard_machine.specs.declared.calls.ShardCall.TheVariants.{Enter}
use Rattle.warm_shard_machine.specs.declared.calls.ShardReply.{ShardReply}
use Rattle.warm_shard_machine.specs.declared.calls.ShardReply.TheVariants.{Entered}
use Rattle.warm_concurrent.specs.declared.fault.SharedFault.TheVariants.{Node}
use Rattle.warm_concurrent.specs.Attached.{ShardPass}
use Rattle.warm_concurrent.specs.Clauses.{AnsweredByShard}
use Rattle.warm_concurrent.specs.Visiting.{EntersByTurn, EntryFails, GoesByTurns, IsVisitOf, RunsErrand, as_stopped, visiting}

-- ---- a visit that was refused

pub not_both : (w : VisitState) → w.stopped ≡ false → w.stopped ≡ true → ⊥
not_both w goes stops = let no : false ≡ true = sym goes ∙ stops in absurd (cc)

stopped_as : (v w : VisitState) (n m : NodeState) → HasEntered v n w m → w.stopped ≡ true
    → w ≡ as_stopped v
stopped_as v w n m (e, said, enters) stops =
    elim (taken_gives v w e.shard e.ask enters.rest said enters.ready enters.takes) [
      | inl is ↦ is
      | inr ran ↦ absurd (not_both w ran.1.0 stops)
    ]

-- a visit that names a shard is in a stage
pub some_stage : (b : Bool) (plan : List Errand) (shard : ℕ) → shard_next b plan ≡ Some shard
    → next_stage plan ≢ None
some_stage true plan shard is = absurd (cc)
some_stage false [] shard is = absurd (cc)
some_stage false (e ∷ es) shard is = λ none. absurd (cc)

-- ---- one entry

module _ (old new : List ShardPass) (total shard : ℕ) (v : VisitState) (c : ShardCall) (r : ShardReply)
    (at : IsNextAt total shard v) (call : c ≡ Enter total shard v)
    (may : MayAnswer total shard c r) where
  -- a node says so
  says : (w : VisitState) → r ≡ Entered w → (n : NodeState) × (m : NodeState) × HasEntered v n w m
  says w reply =
      let so : MayAnswer total shard (Enter total shard v) (Entered w) = subst (λ x. MayAnswer total shard (Enter total shard v) x) reply (subst (λ x. MayAnswer total shard x r) call may) in
      let gone = so (refl, refl) in
      (gone.0, gone.1, gone.2.1)

  -- a visit that was refused has the same errands
  pub same_plan : (w : VisitState) → r ≡ Entered w → w.stopped ≡ true → w.plan ≡ v.plan
  same_plan w reply stops =
      let gone = says w reply in
      ap (λ (x : VisitState). x.plan) (stopped_as v w gone.0 gone.1 gone.2 stops)

  module _ (long : length old ≡ total) (there : shard < length old)
      (answered : AnsweredByShard old shard c r new) (w : VisitState) (reply : r ≡ Entered w) where
    answers : AnsweredByShard old shard (Enter (length old) shard v) (Entered w) new
    answers =
        subst (λ n. AnsweredByShard old shard (Enter n shard v) (Entered w) new) (sym long)
        (subst (λ x. AnsweredByShard old shard (Enter total shard v) x new) reply (subst (λ x. AnsweredByShard old shard x r new) call answered))

    pub runs : IsOnward v w → w.stopped ≡ false → RunsErrand v w old new
    runs onward well =
        let gone = says w reply in
        let e = gone.2.0 in
        let said = gone.2.1 in
        let here : shard ≡ e.shard = sym (named v w shard gone.0 gone.1 e said (sym at.next) gone.2.2) in
        record {
          errand = e;
          said = said;
          enters = subst (λ i. (i < length old) × EntersAny v e said w × AnsweredByShard old i (Enter (length old) i v) (Entered w) new) here (there, (gone.0, gone.1, gone.2.2), answers);
          well = well;
          onward = onward;
        }

    pub fails : (why : NodeFault) → w.stopped ≡ true → why ≡ Memory
        → EntryFails v shard (Node why) old new
    fails why stops is =
        let gone = says w reply in
        let same : w ≡ as_stopped v = stopped_as v w gone.0 gone.1 gone.2 stops in
        subst (λ x. EntryFails v shard (Node x) old new) (sym is) (subst (λ x. AnsweredByShard old shard (Enter (length old) shard v) (Entered x) new) same answers)

-- ---- several entries

-- what begins as a visit of these shards is one
pub visits : (total count : ℕ) (v w : VisitState) → count ≡ total → v ≡ w → w.count ≡ count
    → AreOwnErrands count w.plan → w.stopped ≡ false → IsVisitOf total v
visits total count v w same is of own well =
    let begins : IsVisitOf count w = record { count = of; own = own; well = well } in
    subst (IsVisitOf total) (sym is) (subst (λ n. IsVisitOf n w) same begins)

pub received_count : (id count : ℕ) (message : Message)
    → (receive_visit id count message).count ≡ count
received_count id count (Entries sender horizon entries) = refl
received_count id count (Digest sender horizon digests) = refl
received_count id count (Want sender horizon request) = refl

pub received_well : (id count : ℕ) (message : Message)
    → (receive_visit id count message).stopped ≡ false
received_well id count (Entries sender horizon entries) = refl
received_well id count (Digest sender horizon digests) = refl
received_well id count (Want sender horizon request) = refl

-- a visit that goes on is one of these shards
pub still_visits : (total : ℕ) (v w : VisitState) (old new : List ShardPass) → IsShardCount total
    → IsVisitOf total v → RunsErrand v w old new → IsVisitOf total w
still_visits total v w old new valid of runs =
    let count : w.count ≡ total = runs.onward.count ∙ of.count in
    let own : AreOwnErrands v.count v.plan = subst (λ n. AreOwnErrands n v.plan) (sym of.count) of.own in
    record {
      count = count;
      own = subst (λ n. AreOwnErrands n w.plan) count (errands_are_own.stays v w runs.errand runs.said (subst IsShardCount (sym of.count) valid) own runs.enters.1);
      well = runs.well;
    }

-- with one entry more
pub goes_more : (v u w : VisitState) (old mid new : List ShardPass) → GoesByTurns v old u mid
    → RunsErrand u w mid new → GoesByTurns v old w new
goes_more v u w old mid new (entries, gone) runs = (
  entries ++ operation 0 runs.errand runs.said ∷ [],
  runs_more EntersByTurn (visiting v old) (visiting u mid) (visiting w new) entries (operation 0 runs.errand runs.said) gone runs.enters,
)

-- it names a shard only if it was not refused
pub names_next : (b : Bool) (plan : List Errand) (shard : ℕ) → Some shard ≡ shard_next b plan
    → b ≡ false
names_next true plan shard is = absurd (cc)
names_next false plan shard is = refl

-- it has no errand left if it names no shard
pub none_next : (plan : List Errand) → None ≡ shard_next false plan → plan ≡ []
none_next [] is = refl
none_next (e ∷ es) is = absurd (cc)

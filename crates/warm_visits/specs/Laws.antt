-- Laws of visits, whatever others do between two entries: the errands together give the whole, each
-- is of its own shard's pages and buckets, and messages that are taken out early are the answer's.
use Rattle.std.specs.Prelude.{◌≡◌, ℕ, ◌%◌, ◌<◌, List, [], ◌∷◌, Some, ◌++◌}
use Rattle.std.specs.List.{AllByRecursion}
use Rattle.warm_stamps.specs.declared.Reference.{Reference}
use Rattle.warm_history.specs.ReferenceSets.{ReferenceSet, set_of_list, ◌∪◌}
use Rattle.warm_history.specs.Histories.{HistoryView, history, references_of}
use Rattle.warm_frames.specs.declared.message.Message.{Message}
use Rattle.warm_machine.specs.declared.operation.Operation.{Operation}
use Rattle.warm_machine.specs.Runs.{Runs}
use Rattle.warm_peer.specs.Answers.{refs_in}
use Rattle.warm_gossip.specs.State.{NodeState}
use Rattle.warm_visits.specs.Given.{at_horizon}
use Rattle.warm_visits.specs.ShardNumbers.{IsShardCount, shard_of}
use Rattle.warm_visits.specs.Visits.{Ask, Enters, Errand, Made, Said, VisitState, absorb_visit}
use Rattle.warm_visits.specs.Visits.{answered, copy_visit, gathered, given, giving, join_visit}
use Rattle.warm_visits.specs.Visits.{joined, offer_visit, raise_visit, receive_visit, sending}
use Rattle.warm_visits.specs.VisitMessages.{first_message, with_taken, without_message}

-- The whole

-- an entry into a shard that is in any state
abbrev pub EntersAny : VisitState → Errand → Said → VisitState → Type 0
EntersAny v e said w = (old new : NodeState) × Enters v old e said w new

-- what an errand gave its shard
abbrev pub gave_errand : Ask → Said → ReferenceSet
gave_errand (giving S) (given horizon) = S
gave_errand ask said = set_of_list []

-- what the errands of a visit gave all shards together
abbrev pub gave_all : List (Operation Errand Said) → ReferenceSet
gave_all [] = set_of_list []
gave_all (e ∷ es) = gave_errand e.call.ask e.reply ∪ gave_all es

-- The errands of such a visit, once it is over, together gave these references, whatever others did
-- between two of them.
abbrev pub GivesAll : (ℕ → VisitState) → ReferenceSet → Type 0
GivesAll visit S = (count : ℕ) (entries : List (Operation Errand Said)) (w : VisitState)
    → IsShardCount count → Runs EntersAny (visit count) entries w → w.plan ≡ []
    → (R : ReferenceSet) → history (R ∪ gave_all entries) ≡ history (R ∪ S)

-- what a visit gives all shards together: the batch, the horizon, the message, the history
pub record WholeIsGiven : Type 0 where
  pub absorbs : (id : ℕ) (batch : List Reference)
      → GivesAll (λ n. absorb_visit id n batch) (set_of_list batch)
  pub raises : (id time : ℕ) → GivesAll (λ n. raise_visit id n time) (at_horizon time)
  pub receives : (id : ℕ) (message : Message)
      → GivesAll (λ n. receive_visit id n message) (refs_in message)
  pub joins : (id : ℕ) (h : HistoryView) → GivesAll (λ n. join_visit id n h) (references_of h)

-- Each shard's own

-- what is asked of a shard is of its pages and buckets alone
abbrev pub IsOwnAsk : ℕ → ℕ → Ask → Type 0
IsOwnAsk count i (giving S) = AllByRecursion (λ r. shard_of count r.page ≡ i) S.given
IsOwnAsk count i (sending bucket after) = bucket % count ≡ i
IsOwnAsk count i ask = Unit {0}

-- each errand is at a shard, and of its pages and buckets alone
abbrev pub AreOwnErrands : ℕ → List Errand → Type 0
AreOwnErrands count plan =
    AllByRecursion (λ e. (e.shard < count) × IsOwnAsk count e.shard e.ask) plan

-- each errand of a visit is at a shard, and of its pages alone, and those of what it becomes are so
pub record ErrandsAreOwn : Type 0 where
  pub absorbs : (id count : ℕ) (batch : List Reference) → IsShardCount count
      → AreOwnErrands count (absorb_visit id count batch).plan
  pub raises : (id count time : ℕ) → IsShardCount count
      → AreOwnErrands count (raise_visit id count time).plan
  pub receives : (id count : ℕ) (message : Message) → IsShardCount count
      → AreOwnErrands count (receive_visit id count message).plan
  pub joins : (id count : ℕ) (h : HistoryView) → IsShardCount count
      → AreOwnErrands count (join_visit id count h).plan
  pub offers : (id count : ℕ) → AreOwnErrands count (offer_visit id count).plan
  pub copies : (id count : ℕ) → AreOwnErrands count (copy_visit id count).plan
  pub stays : (v w : VisitState) (e : Errand) (said : Said) → IsShardCount v.count
      → AreOwnErrands v.count v.plan → EntersAny v e said w → AreOwnErrands w.count w.plan

-- What was made

-- an offer: a horizon and digests
abbrev pub IsOffer : Made → Type 0
IsOffer made = (horizon : ℕ) × (table : List (List ℕ)) × (made ≡ gathered horizon table)

-- a copy: a history
abbrev pub IsCopy : Made → Type 0
IsCopy made = (h : HistoryView) × (made ≡ joined h)

-- this is so of what the visit has made, however far it went, whatever others did between two
-- entries
abbrev pub HasAlwaysMade : VisitState → (Made → Type 0) → Type 0
HasAlwaysMade v IsSo = (entries : List (Operation Errand Said)) (w : VisitState)
    → Runs EntersAny v entries w → IsSo w.made

-- A visit that offers has always made an offer, and one that copies a copy.
pub record MadeStaysOfItsKind : Type 0 where
  pub offers : (id count : ℕ) → HasAlwaysMade (offer_visit id count) IsOffer
  pub copies : (id count : ℕ) → HasAlwaysMade (copy_visit id count) IsCopy

-- Messages taken out early

-- Messages of an answer, taken out as they are made, are with those that are left the answer: a
-- visit from which none was taken makes the same entries, and has these before.
pub record TakenAreTheAnswer : Type 0 where
  pub enters : (taken messages : List Message) (v w : VisitState) (e : Errand) (said : Said)
      (old new : NodeState) → v.made ≡ answered messages → Enters v old e said w new
      → Enters (with_taken taken v) old e said (with_taken taken w) new
  pub takes : (taken : List Message) (message : Message) (v : VisitState)
      → first_message v ≡ Some message
      → with_taken taken v ≡ with_taken (taken ++ message ∷ []) (without_message v)

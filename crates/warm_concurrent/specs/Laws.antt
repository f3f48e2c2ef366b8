-- The laws of shared shards.
use Rattle.std.specs.Prelude.{ℕ, ◌<◌, List, [], ◌∷◌, length, Ok}
use mathlib.Core.List.{IsPrefix}
use Rattle.warm_history.specs.ReferenceSets.{ReferenceSet, set_of_list, ◌∪◌}
use Rattle.warm_history.specs.Histories.{HistoryView, StandsFor, history, references_of}
use Rattle.warm_machine.specs.declared.operation.Operation.{Operation}
use Rattle.warm_machine.specs.Runs.{Runs}
use Rattle.warm_gossip.specs.State.{NodeState}
use Rattle.warm_shards.specs.Shards.{AreShards, HoldsShard}
use Rattle.warm_visits.specs.Visits.{VisitState}
use Rattle.warm_shard_machine.specs.declared.calls.ShardCall.{ShardCall}
use Rattle.warm_shard_machine.specs.declared.calls.ShardReply.{ShardReply}
use Rattle.warm_concurrent.specs.declared.fault.SharedFault.{SharedFault}
use Rattle.warm_concurrent.specs.Attached.{Known, ShardPass, ShardTurn, known_of}
use Rattle.warm_concurrent.specs.Clauses.{AnsweredByShard, CallFails}
use Rattle.warm_concurrent.specs.Opening.{ClosesShard, PassesAreJoined, shards_over, state_at}
use Rattle.warm_shard_machine.specs.ShardSteps.{ShardState, ShardStep}
use Rattle.warm_concurrent.specs.Visiting.{GoesByTurns}
use Rattle.warm_concurrent.specs.Whole.{DoneFirst, RaisesFirst}

-- The pages of a shard

-- Shards that are to be shared hold their own pages alone. A shard that opened so does so after any
-- legal list of its calls, and so does its node once the shard is closed.
pub record ShardsHoldTheirPages : Type 0 where
  pub opened : (nodes : List NodeState) (i : ℕ) → AreShards nodes → i < length nodes
      → HoldsShard (length nodes) i (state_at (shards_over nodes) i).node
  pub called : (opening last : ShardState) (calls : List (Operation ShardCall ShardReply))
      → HoldsShard opening.count opening.number opening.node
      → Runs ShardStep opening calls last
      → HoldsShard opening.count opening.number last.node
  pub closed : (turn : ShardTurn) (known : Known) (node : NodeState)
      → HoldsShard turn.opening.count turn.opening.number turn.opening.node
      → ClosesShard turn known (Ok node)
      → HoldsShard turn.opening.count turn.opening.number node

-- All shards

-- the references that histories hold, together
abbrev pub held_by : List HistoryView → ReferenceSet
held_by [] = set_of_list []
held_by (h ∷ hs) = references_of h ∪ held_by hs

-- the references of these sets, together
abbrev pub all_of : List ReferenceSet → ReferenceSet
all_of [] = set_of_list []
all_of (S ∷ Ss) = S ∪ all_of Ss

-- each history stands for the references at its place
abbrev pub StandForEach : List HistoryView → List ReferenceSet → Type 0
StandForEach [] [] = Unit {0}
StandForEach (h ∷ hs) (S ∷ Ss) = StandsFor h S × StandForEach hs Ss
StandForEach _ _ = ⊥

-- if each shard has the history of the references that it was given, all together have that of all
-- the references that all were given
abbrev pub TogetherAreOfGiven : Type 0
TogetherAreOfGiven = (hs : List HistoryView) (Ss : List ReferenceSet) → StandForEach hs Ss
    → StandsFor (history (held_by hs)) (all_of Ss)

-- What a thread has seen

-- of each shard all that was seen is still seen, in its order
abbrev pub SeesMore : List ShardPass → List ShardPass → Type 0
SeesMore old new = (i : ℕ) → i < length old → IsPrefix (known_of old i).seen (known_of new i).seen

-- `So` holds of what a thread has, before and after each call of one shard, even if it is refused,
-- each visit, however far it went, and each other call of several shards. One of these that stops at
-- a shard is such a call of the shards before, and a refused call of that one.
pub record OverCalls (So : List ShardPass → List ShardPass → Type 0) : Type 0 where
  pub called : (old new : List ShardPass) (i : ℕ) (call : ShardCall) (reply : ShardReply)
      → i < length old → AnsweredByShard old i call reply new → So old new
  pub refused : (old new : List ShardPass) (i : ℕ) (call : ShardCall) (why : SharedFault)
      → i < length old → CallFails old i call why new → So old new
  pub visited : (old new : List ShardPass) (v w : VisitState) → GoesByTurns v old w new → So old new
  pub raised : (old new : List ShardPass) (k time : ℕ) → RaisesFirst time k old new → So old new
  pub done : (old new : List ShardPass) (k : ℕ) (call : ShardCall) → DoneFirst call k old new
      → So old new

-- whatever a thread calls, it has then seen of each shard what it had seen, and maybe more
pub record OnlySeesMore : Type 0 where
  pub calls : OverCalls SeesMore
  pub joined : (old other new : List ShardPass) → PassesAreJoined old other new → SeesMore old new

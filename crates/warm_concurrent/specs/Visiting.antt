-- Calls of the whole as visits: a thread lets a visit into the shards, by turns.
use Rattle.std.specs.Prelude.{◌≡◌, ◌⊎◌, ℕ, ◌<◌, false, true, List, [], length, Some}
use Rattle.warm_machine.specs.declared.operation.Operation.{Operation}
use Rattle.warm_machine.specs.Runs.{Runs}
use Rattle.warm_gossip.specs.declared.fault.NodeFault.TheVariants.{Memory}
use Rattle.warm_visits.specs.declared.stage.Stage.{Stage}
use Rattle.warm_visits.specs.declared.stage.Stage.TheVariants.{Raising, Sending}
use Rattle.warm_visits.specs.Laws.{AreOwnErrands, EntersAny}
use Rattle.warm_visits.specs.Stages.{next_stage}
use Rattle.warm_visits.specs.Visits.{Errand, Said, VisitState, next_shard}
use Rattle.warm_shard_machine.specs.Entering.{IsOnward}
use Rattle.warm_shard_machine.specs.declared.calls.ShardCall.TheVariants.{Enter}
use Rattle.warm_shard_machine.specs.declared.calls.ShardReply.TheVariants.{Entered}
use Rattle.warm_concurrent.specs.declared.fault.SharedFault.{SharedFault}
use Rattle.warm_concurrent.specs.declared.fault.SharedFault.TheVariants.{Node, TurnsSpent}
use Rattle.warm_concurrent.specs.Attached.{ShardPass}
use Rattle.warm_concurrent.specs.Clauses.{AnsweredByShard, Spent}

-- a visit, and what the thread has of the shards that lets it in
pub record Visiting : Type 0 where
  pub visit : VisitState
  pub passes : List ShardPass

-- this visit, and these passes
abbrev pub visiting : VisitState → List ShardPass → Visiting
visiting v passes = record { visit = v; passes = passes }

-- the visit goes to so many shards, asks of each what is of its pages alone, and was not refused
pub record IsVisitOf (total : ℕ) (v : VisitState) : Type 0 where
  pub count : v.count ≡ total
  pub own : AreOwnErrands total v.plan
  pub well : v.stopped ≡ false

-- One entry: the shard of the next errand answered that the visit is the second one, in one turn, and
-- no other turn was entered. A node says so to that errand.
abbrev pub EntersByTurn : Visiting → Errand → Said → Visiting → Type 0
EntersByTurn s e said t = (e.shard < length s.passes) × EntersAny s.visit e said t.visit
    × AnsweredByShard s.passes e.shard (Enter (length s.passes) e.shard s.visit)
    (Entered t.visit) t.passes

-- the visit has run its next errand so, which was not refused
pub record RunsErrand (v w : VisitState) (old new : List ShardPass) : Type 0 where
  pub errand : Errand
  pub said : Said
  pub enters : EntersByTurn (visiting v old) errand said (visiting w new)
  pub well : w.stopped ≡ false
  pub onward : IsOnward v w

-- the visit went from shard to shard, each time in one turn; so it is the second one, and these are
-- the passes
abbrev pub GoesByTurns : VisitState → List ShardPass → VisitState → List ShardPass → Type 0
GoesByTurns v old w new = (entries : List (Operation Errand Said))
    × Runs EntersByTurn (visiting v old) entries (visiting w new)

-- so it has no errand left, and none was refused
pub record GoneThrough (v w : VisitState) (old new : List ShardPass) : Type 0 where
  pub goes : GoesByTurns v old w new
  pub over : w.plan ≡ []
  pub well : w.stopped ≡ false

-- all errands of the visit were run
abbrev pub IsGoneThrough : VisitState → List ShardPass → List ShardPass → Type 0
IsGoneThrough v old new = (w : VisitState) × GoneThrough v w old new

-- a visit whose next errand was refused
abbrev pub as_stopped : VisitState → VisitState
as_stopped v = record v { stopped = true }

-- shard k had no memory for the next errand of the visit, or no ticket was left for it
abbrev pub EntryFails : VisitState → ℕ → SharedFault → List ShardPass → List ShardPass → Type 0
EntryFails v k (Node Memory) old new =
    AnsweredByShard old k (Enter (length old) k v) (Entered (as_stopped v)) new
EntryFails v k TurnsSpent old new = Spent old k new
EntryFails v k why old new = ⊥

-- the visit has run its errands up to one at shard k, which failed; then it is the second one
pub record VisitStops (v w : VisitState) (k : ℕ) (why : SharedFault) (old new : List ShardPass)
    : Type 0 where
  pub mid : List ShardPass
  pub goes : GoesByTurns v old w mid
  pub next : next_shard w ≡ Some k
  pub there : k < length mid
  pub fails : EntryFails w k why mid new

-- the visit has stopped so at shard k, and this stage it was in
abbrev pub StopsInStage : VisitState → Stage → ℕ → SharedFault → List ShardPass → List ShardPass
    → Type 0
StopsInStage v stage k why old new = (w : VisitState) × VisitStops v w k why old new
    × (next_stage w.plan ≡ Some stage)

-- An errand of the visit at shard k failed, after all before it were run; or no memory was left for
-- the visit, and nothing has changed.
abbrev pub VisitFails : VisitState → ℕ → SharedFault → List ShardPass → List ShardPass → Type 0
VisitFails v k why old new = ((k ≡ 0) × (why ≡ Node Memory) × (new ≡ old))
    ⊎ ((w : VisitState) × VisitStops v w k why old new)

-- The visit failed so; or all its errands were run, and no memory was left for what is made of it.
abbrev pub VisitOrEndFails : VisitState → ℕ → SharedFault → List ShardPass → List ShardPass → Type 0
VisitOrEndFails v k why old new = VisitFails v k why old new
    ⊎ ((k ≡ length old) × (why ≡ Node Memory) × IsGoneThrough v old new)

-- Visits that raise all shards first

-- An errand of the visit failed so, in this stage; or no memory was left for the visit, no shard was
-- raised, and nothing has changed.
abbrev pub StageFails : VisitState → Stage → ℕ → SharedFault → List ShardPass → List ShardPass
    → Type 0
StageFails v stage k why old new =
    ((stage ≡ Raising) × (k ≡ 0) × (why ≡ Node Memory) × (new ≡ old))
    ⊎ StopsInStage v stage k why old new

-- It failed so; or all its errands were run, and no memory was left for the list of what was sent.
abbrev pub StageOrEndFails : VisitState → Stage → ℕ → SharedFault → List ShardPass
    → List ShardPass → Type 0
StageOrEndFails v stage k why old new = StageFails v stage k why old new
    ⊎ ((stage ≡ Sending) × (k ≡ length old) × (why ≡ Node Memory) × IsGoneThrough v old new)

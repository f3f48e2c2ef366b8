-- Numbers within the widths of their types: of events, and so of all that reaches replicas.
use Rattle.std.specs.Prelude.{ℕ, ◌<◌, ◌≤◌, ◌^◌, List, length}
use Rattle.std.specs.List.{AllByRecursion}
use Rattle.warm_stamps.specs.declared.TheConstants.{MAX_REPLICAS}
use Rattle.warm_stamps.specs.Bytes.{IsPage}
use Rattle.warm_history.specs.ReferenceSets.{ReferenceSet, references}
use Rattle.warm_history.specs.Histories.{history}
use Rattle.warm_devices.specs.Device.{DeviceState}
use Rattle.warm_digest.specs.Exchange.{AreReferences, Fits}
use Rattle.warm_world.specs.declared.event.Event.{Event}
use Rattle.warm_world.specs.declared.event.Event.TheVariants.{Refer, Horizon}
use Rattle.warm_world.specs.declared.event.Answer.{Answer}
use Rattle.warm_world.specs.Sizes.{Sizes}
use Rattle.warm_world.specs.States.{ModelState, ReplicaState, MessageRecord, reach_of, opening}
use Rattle.warm_world.specs.GossipAnswers.{refs_of}
use Rattle.warm_world.specs.Effects.{Run}

-- an event's page and time are within their widths
abbrev pub EventFits : Event → Type 0
EventFits (Refer i w page time) = IsPage page × (time < 2 ^ 64)
EventFits (Horizon i time) = time < 2 ^ 64
EventFits event = Unit {0}

-- a horizon is within its width, and all references that are not older are valid
pub record ReachFits (S : ReferenceSet) : Type 0 where
  pub horizon : S.horizon < 2 ^ 64
  pub references : AreReferences (references S)

-- all numbers of a replica are within their widths: the horizon and references that reached it, and
-- its pending references
pub record ReplicaFits (r : ReplicaState) : Type 0 where
  pub reached : ReachFits r.reach
  pub waiting : AllByRecursion AreReferences r.pending

-- all numbers that a stored message brings are within their widths
abbrev pub RecordFits : MessageRecord → Type 0
RecordFits kept = ReachFits (refs_of kept)

-- all numbers of replicas and stored messages are within their widths, and there are at most
-- MAX_REPLICAS replicas
pub record ModelFits (m : ModelState) : Type 0 where
  pub few : length m.replicas ≤ MAX_REPLICAS
  pub replicas : AllByRecursion ReplicaFits m.replicas
  pub records : AllByRecursion RecordFits m.records

-- before the first event nothing has reached a replica
abbrev pub OpeningFits : Type 0
OpeningFits = (s : Sizes) (devices : List (List DeviceState)) → length devices ≤ MAX_REPLICAS
    → ModelFits (opening s devices)

-- events whose numbers are within their widths keep all numbers within their widths
abbrev pub RunsFit : Type 0
RunsFit = (old : ModelState) (events : List Event) (answers : List Answer) (new : ModelState)
    → ModelFits old → AllByRecursion EventFits events → Run old events answers new → ModelFits new

-- if a model state's numbers are within their widths, so are those of each replica's history
abbrev pub HistoriesFit : Type 0
HistoriesFit = (m : ModelState) (i : ℕ) → ModelFits m → Fits (history (reach_of m i))

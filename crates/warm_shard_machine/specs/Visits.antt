-- What visitors of a shard return, and by which replies they say what they did.
use Rattle.std.specs.Prelude.{◌≡◌, ◌≢◌, ℕ, false, List, Option, Some, None, Result, Ok, Err}
use Rattle.boxcar.specs.declared.tag.Tag.{Tag}
use Rattle.warm_devices.specs.Device.{DeviceState}
use Rattle.warm_pool.specs.declared.fault.PoolFault.{PoolFault}
use Rattle.warm_pool.specs.declared.slot.Slot.{Slot}
use Rattle.warm_gossip.specs.declared.fault.NodeFault.{NodeFault}
use Rattle.warm_gossip.specs.declared.fault.NodeFault.TheVariants.{Memory, Pool}
use Rattle.warm_shard_machine.specs.declared.calls.ShardCall.{ShardCall}
use Rattle.warm_shard_machine.specs.declared.calls.ShardCall.TheVariants.{Retire}
use Rattle.warm_shard_machine.specs.declared.calls.ShardReply.{ShardReply}
use Rattle.warm_shard_machine.specs.declared.calls.ShardReply.TheVariants.{Bytes, Changed, Foreign}
use Rattle.warm_shard_machine.specs.declared.calls.ShardReply.TheVariants.{Looked, Pinned, Refused}
use Rattle.warm_shard_machine.specs.declared.calls.ShardReply.TheVariants.{Entered, Replaced}
use Rattle.warm_shard_machine.specs.declared.visitors.Went.{Went}
use Rattle.warm_shard_machine.specs.declared.visitors.Went.TheVariants as went
use Rattle.warm_shard_machine.specs.Entering.{IsOnward}
use Rattle.warm_shard_machine.specs.ToldDevices.{IsTold}
use Rattle.warm_visits.specs.Visits.{VisitState}

-- `so` holds of the bytes that the reply shows
abbrev pub Shows : (List ℕ → Type 0) → ShardReply → Type 0
Shows so (Looked slot bytes) = so bytes.numbers
Shows so reply = ⊥

-- `so` holds of the bytes before and after that the reply shows
abbrev pub ShowsBoth : (List ℕ → List ℕ → Type 0) → ShardReply → Type 0
ShowsBoth so (Changed slot before after) = so before.numbers after.numbers
ShowsBoth so reply = ⊥

-- the reply of a visit: `so` holds of what it gave and the reply, or the node refused it, or the
-- page is of another shard
abbrev pub VisitWentAs : {T : Type 0} → (T → ShardReply → Type 0) → Went T → ShardReply → Type 0
VisitWentAs so (went.Given given) reply = so given reply
VisitWentAs so (went.Refused why) reply = reply ≡ Refused why
VisitWentAs so went.Foreign reply = reply ≡ Foreign

-- How a read into these bytes went, and what they then are: they are the reply; or they are as they
-- were, and the reply is a refusal, though never for memory.
abbrev pub ReadsInto : List ℕ → Option NodeFault → List ℕ → ShardReply → Type 0
ReadsInto old None new reply = reply ≡ Bytes new
ReadsInto old (Some why) new reply = (reply ≡ Refused why) × (new ≡ old) × (why ≢ Memory)

-- How a pin of a page with given bytes went, and its reply: the slot; or a refusal, though never for
-- memory; or the page is of another shard.
abbrev pub FillsAs : Went Slot → ShardReply → Type 0
FillsAs (went.Given slot) reply = reply ≡ Pinned slot
FillsAs (went.Refused why) reply = (reply ≡ Refused why) × (why ≢ Memory)
FillsAs went.Foreign reply = reply ≡ Foreign

-- No device of the type claims to return the bytes last written. So any bytes are believed of its
-- pages: in a turn no contract knows which bytes a thread read before it.
abbrev pub ClaimNothing : {D : Type 0} → (D → DeviceState) → Type 0
ClaimNothing {D} state = (device : D) → (state device).honest ≡ false

-- How a replacement went, as the call and the reply say: the old device is given back, in this
-- state, or the pool refused it with the fault of this error
abbrev pub ReplacesAs : {D E : Type 0} → (D → DeviceState) → (E → PoolFault) → ℕ → DeviceState
    → Result D E → ShardCall → ShardReply → Type 0
ReplacesAs state fault dev device (Ok was) call reply = (told : Tag) × (given : Tag)
    × IsTold told device × IsTold given (state was)
    × (call ≡ Retire dev told) × (reply ≡ Replaced given)
ReplacesAs state fault dev device (Err e) call reply = (told : Tag) × IsTold told device
    × (call ≡ Retire dev told) × (reply ≡ Refused (Pool (fault e)))

-- What a visit is once it has entered, and the reply: it has gone on; or the shard is not the one of
-- its next errand.
abbrev pub EntersAs : VisitState → Option VisitState → ShardReply → Type 0
EntersAs v (Some w) reply = (reply ≡ Entered w) × IsOnward v w
EntersAs v None reply = reply ≡ Foreign

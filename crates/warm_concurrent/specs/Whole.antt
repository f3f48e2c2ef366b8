-- Calls of the whole: shard by shard, in the order of their numbers.
use Rattle.std.specs.Prelude.{ℕ, ◌<◌, List, length}
use Rattle.warm_shards.specs.EachShard.{First}
use Rattle.warm_shard_machine.specs.declared.calls.ShardCall.TheVariants.{Raise, WritePages}
use Rattle.warm_shard_machine.specs.declared.calls.ShardCall.TheVariants.{WriteBack}
use Rattle.warm_shard_machine.specs.declared.calls.ShardCall.{ShardCall}
use Rattle.warm_shard_machine.specs.declared.calls.ShardReply.TheVariants.{Done, Kept}
use Rattle.warm_concurrent.specs.declared.fault.SharedFault.{SharedFault}
use Rattle.warm_concurrent.specs.declared.writing.NotWritten.{NotWritten}
use Rattle.warm_concurrent.specs.declared.writing.NotWritten.TheVariants.{Pages, Devices}
use Rattle.warm_concurrent.specs.Attached.{ShardPass, no_pass}
use Rattle.warm_concurrent.specs.Clauses.{CallFails, Got}

-- a shard forgot all stamps before this time
abbrev pub RaisesShard : ℕ → ℕ → ShardPass → ShardPass → Type 0
RaisesShard time i old new = (horizon : ℕ) × Got old.view (Raise time) (Kept horizon) new.view

-- the shards below k forgot all stamps before this time, and no other turn was entered
abbrev pub RaisesFirst : ℕ → ℕ → List ShardPass → List ShardPass → Type 0
RaisesFirst time k old new = First no_pass (RaisesShard time) k old new

-- the shards below k forgot all stamps before this time, and the shard k found no ticket
abbrev pub RaiseFails : ℕ → ℕ → SharedFault → List ShardPass → List ShardPass → Type 0
RaiseFails time k why old new = (mid : List ShardPass) × (k < length old)
    × RaisesFirst time k old mid × CallFails mid k (Raise time) why new

-- Writing back

-- a shard made this call, which has no result, in one turn
abbrev pub Does : ShardCall → ℕ → ShardPass → ShardPass → Type 0
Does call i old new = Got old.view call Done new.view

-- the shards below k made this call, and no other turn was entered
abbrev pub DoneFirst : ShardCall → ℕ → List ShardPass → List ShardPass → Type 0
DoneFirst call k old new = First no_pass (Does call) k old new

-- the shards below k made this call, and the shard k refused it or found no ticket
abbrev pub DoneFails : ShardCall → ℕ → SharedFault → List ShardPass → List ShardPass → Type 0
DoneFails call k why old new = (mid : List ShardPass) × (k < length old)
    × DoneFirst call k old mid × CallFails mid k call why new

-- each shard wrote its pages in one turn, and then each wrote back in one more
abbrev pub ShardsWriteBack : List ShardPass → List ShardPass → Type 0
ShardsWriteBack old new = (mid : List ShardPass) × DoneFirst WritePages (length old) old mid
    × DoneFirst WriteBack (length old) mid new

-- a page of one shard was not written; or all were, and a device of one was not flushed
abbrev pub WriteBackStopsAt : NotWritten → List ShardPass → List ShardPass → Type 0
WriteBackStopsAt (Pages at) old new = DoneFails WritePages at.shard at.fault old new
WriteBackStopsAt (Devices at) old new = (mid : List ShardPass)
    × DoneFirst WritePages (length old) old mid × DoneFails WriteBack at.shard at.fault mid new

-- Pinning a page whose bytes a thread has read with no turn held.
use Rattle.std.specs.Prelude.{◌≡◌, ℕ, List, Result}
use Rattle.boxcar.specs.declared.tag.Tag.{Tag}
use Rattle.warm_stamps.specs.declared.PageId.{PageId}
use Rattle.warm_shard_machine.specs.declared.calls.ShardCall.TheVariants.{PinFilled}
use Rattle.warm_shard_machine.specs.declared.calls.ShardReply.{ShardReply}
use Rattle.warm_concurrent.specs.declared.fault.SharedFault.{SharedFault}
use Rattle.warm_concurrent.specs.Attached.{ShardPass}
use Rattle.warm_concurrent.specs.Clauses.{CallEnds}

-- a pin with these bytes corresponds to the reply of the shard, or to its refusal
abbrev pub FilledPinEnds : {T : Type 0} → List ShardPass → ℕ → PageId → List ℕ → (T → ShardReply)
    → Result T SharedFault → List ShardPass → Type 0
FilledPinEnds old i page bytes reply result new = (told : Tag) × (told.numbers ≡ bytes)
    × CallEnds old i (PinFilled page told) reply result new

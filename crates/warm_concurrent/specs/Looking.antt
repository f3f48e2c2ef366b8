-- Looking at a page and changing it where it lies: what a thread has seen.
use Rattle.std.specs.Prelude.{ℕ, List}
use Rattle.boxcar.specs.declared.tag.Tag.{Tag}
use Rattle.warm_pool.specs.declared.slot.Slot.{Slot}
use Rattle.warm_stamps.specs.declared.PageId.{PageId}
use Rattle.warm_shard_machine.specs.declared.calls.ShardCall.TheVariants.{Change, Look}
use Rattle.warm_shard_machine.specs.declared.calls.ShardReply.TheVariants.{Changed, Looked}
use Rattle.warm_concurrent.specs.Attached.{ShardPass}
use Rattle.warm_concurrent.specs.Clauses.{AnsweredByShard}

-- the shard of this number showed bytes of the page, of which `so` holds, in one turn, and no other
-- was entered
abbrev pub LooksAt : List ShardPass → ℕ → PageId → (List ℕ → Type 0) → List ShardPass → Type 0
LooksAt old i page so new = (slot : Slot) × (bytes : Tag) × so bytes.numbers
    × AnsweredByShard old i (Look page) (Looked slot bytes) new

-- the shard of this number changed bytes of the page, of which before and after `so` holds, in one
-- turn, and no other was entered
abbrev pub ChangesPageAt : List ShardPass → ℕ → PageId → (List ℕ → List ℕ → Type 0) → List ShardPass
    → Type 0
ChangesPageAt old i page so new = (slot : Slot) × (before : Tag) × (after : Tag)
    × so before.numbers after.numbers
    × AnsweredByShard old i (Change page) (Changed slot before after) new

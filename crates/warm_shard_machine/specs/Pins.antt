-- The pins of a shard: which calls give and remove them, and how many are in its pool.
use Rattle.std.specs.Prelude.{◌≡◌, ℕ, ◌+◌, List}
use Rattle.std.specs.List.{sum_by}
use Rattle.warm_pool.specs.State.{IsPool}
use Rattle.warm_pool.specs.View.{FrameView, view_of}
use Rattle.warm_machine.specs.Runs.{Runs}
use Rattle.warm_gossip.specs.State.{NodeState}
use Rattle.warm_shard_machine.specs.declared.calls.ShardCall.{ShardCall}
use Rattle.warm_shard_machine.specs.declared.calls.ShardCall.TheVariants.{Pin, PinFilled, PinZeroed}
use Rattle.warm_shard_machine.specs.declared.calls.ShardCall.TheVariants.{Unpin}
use Rattle.warm_shard_machine.specs.declared.calls.ShardReply.{ShardReply}
use Rattle.warm_shard_machine.specs.declared.calls.ShardReply.TheVariants.{Done, Pinned}
use Rattle.warm_shard_machine.specs.Laws.{Log}
use Rattle.warm_shard_machine.specs.ShardSteps.{ShardState, ShardStep}

-- the pins of all these frames
abbrev pub pins_in : List FrameView → ℕ
pins_in frames = sum_by (λ f. f.fixes) frames

-- the pins of a node's pool
abbrev pub pool_pins : NodeState → ℕ
pool_pins node = pins_in (view_of node.pool).frames

-- how many pins a call with this reply gave
abbrev pub pin_by : ShardCall → ShardReply → ℕ
pin_by (Pin page) (Pinned slot) = 1
pin_by (PinZeroed page) (Pinned slot) = 1
pin_by (PinFilled page bytes) (Pinned slot) = 1
pin_by call reply = 0

-- how many pins a call with this reply removed
abbrev pub unpin_by : ShardCall → ShardReply → ℕ
unpin_by (Unpin slot) Done = 1
unpin_by call reply = 0

-- how many pins these calls gave
abbrev pub pins_by : Log → ℕ
pins_by calls = sum_by (λ e. pin_by e.call e.reply) calls

-- how many pins these calls removed
abbrev pub unpins_by : Log → ℕ
unpins_by calls = sum_by (λ e. unpin_by e.call e.reply) calls

-- these calls lead from one number of pins to another
abbrev pub LeadsTo : ℕ → Log → ℕ → Type 0
LeadsTo before calls after = after + unpins_by calls ≡ before + pins_by calls

-- the pins of a shard's pool are those with which it opened and those that its calls gave, less
-- those that they removed
abbrev pub PinsAreGiven : Type 0
PinsAreGiven = (opening last : ShardState) (calls : Log) → IsPool opening.node.pool
    → Runs ShardStep opening calls last
    → LeadsTo (pool_pins opening.node) calls (pool_pins last.node)

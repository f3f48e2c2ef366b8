-- What contracts see of shards that threads share, and of what a thread has of them.
use Rattle.std.specs.Prelude.{◌≡◌, ℕ, ◌<◌, List, [], length, Some, slice_index_or, slice_set}
use Rattle.atomic_table.specs.Seated.{TableId}
use Rattle.warm_turn.specs.CallHistories.{PassView, TurnView, nobody, turn_at}
use Rattle.warm_turn.specs.declared.table.View.{View}
use Rattle.warm_visits.specs.ShardNumbers.{IsShardCount}
use Rattle.warm_shard_machine.specs.declared.calls.ShardCall.{ShardCall}
use Rattle.warm_shard_machine.specs.declared.calls.ShardReply.{ShardReply}
use Rattle.warm_shard_machine.specs.ShardSteps.{ShardState, no_state}

-- the turn of a shard
abbrev pub ShardTurn : Type 0
ShardTurn = TurnView ShardState

-- a pass of a shard's turn
abbrev pub ShardPass : Type 0
ShardPass = PassView ShardState ShardCall ShardReply

-- what a pass of a shard's turn knows of the shard
abbrev pub Known : Type 0
Known = View ShardState ShardCall ShardReply

-- no table at all
abbrev pub no_table : TableId
no_table =
    record {
      words = 0;
      slots = 0;
      views_name = 0;
      atom = 0;
      block = 0;
      offset = 0;
      slot_names = [];
    }

-- the turn that is read at a number that no shard has
abbrev pub no_turn : ShardTurn
no_turn = turn_at no_table no_state

-- the pass that is read at a number that no shard has
abbrev pub no_pass : ShardPass
no_pass = record { table = no_table; view = nobody }

-- the turn of the shard of this number
abbrev pub shard_turn : List ShardTurn → ℕ → ShardTurn
shard_turn turns i = slice_index_or turns i no_turn

-- the pass of the shard of this number
abbrev pub shard_pass : List ShardPass → ℕ → ShardPass
shard_pass passes i = slice_index_or passes i no_pass

-- what the thread has seen of the shard of this number, and done there
abbrev pub known_of : List ShardPass → ℕ → Known
known_of passes i = (shard_pass passes i).view

-- what a thread has: a pass of each shard, that of shard 0 first, and how many pins it holds
pub record AttachedView : Type 0 where
  pub passes : List ShardPass
  pub pins : ℕ

-- the pass is of this turn, and opened with it
pub record IsPassOf (turn : ShardTurn) (pass : ShardPass) : Type 0 where
  pub table : pass.table ≡ turn.table
  pub opens : pass.view.opening ≡ Some turn.opening

-- there is one pass of each turn, in their order
pub record AreOf (turns : List ShardTurn) (passes : List ShardPass) : Type 0 where
  pub count : length passes ≡ length turns
  pub each : (i : ℕ) → i < length turns → IsPassOf (shard_turn turns i) (shard_pass passes i)

-- the turns are those of all shards of a replica, each with its number
pub record AreTurns (turns : List ShardTurn) : Type 0 where
  pub count : IsShardCount (length turns)
  pub counts : (i : ℕ) → i < length turns → (shard_turn turns i).opening.count ≡ length turns
  pub numbers : (i : ℕ) → i < length turns → (shard_turn turns i).opening.number ≡ i

-- each shard opened with a node of the replica of this number
pub record OpenedAs (id : ℕ) (turns : List ShardTurn) : Type 0 where
  pub each : (i : ℕ) → i < length turns → (shard_turn turns i).opening.node.id ≡ id

-- every pass but that of this shard is unchanged
abbrev pub KeepsOtherPasses : List ShardPass → ℕ → List ShardPass → Type 0
KeepsOtherPasses old i new = new ≡ slice_set old i (shard_pass new i)

-- the number of the replica with whose nodes the shards opened
abbrev pub opened_id : List ShardTurn → ℕ
opened_id turns = (shard_turn turns 0).opening.node.id

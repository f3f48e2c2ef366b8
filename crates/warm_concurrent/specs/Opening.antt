-- Sharing shards, attaching threads to them, and closing them.
use Rattle.std.specs.Prelude.{◌≡◌, ◌≢◌, ℕ, suc, ◌<◌, List, [], ◌∷◌, length, map, Result, Ok, Err}
use Rattle.std.specs.Prelude.{slice_index_or}
use Rattle.warm_turn.specs.declared.fault.Busy.{Busy}
use Rattle.warm_turn.specs.CallHistories.{IsLast, Joined, calls_by, first_pass, halved, new_pass}
use Rattle.warm_turn.specs.Shares.{IsWhole}
use Rattle.warm_turn.specs.Rule.{AreWords, MarkShows}
use Rattle.warm_gossip.specs.State.{NodeState}
use Rattle.warm_gossip.specs.declared.fault.NodeFault.TheVariants.{Memory}
use Rattle.warm_visits.specs.ShardNumbers.{IsShardCount}
use Rattle.warm_concurrent.specs.declared.fault.SharedFault.{SharedFault}
use Rattle.warm_concurrent.specs.declared.fault.SharedFault.TheVariants.{Node, PinsHeld}
use Rattle.warm_concurrent.specs.Attached.{Known, ShardPass, ShardTurn, known_of, shard_pass}
use Rattle.warm_concurrent.specs.Attached.{shard_turn}
use Rattle.warm_shard_machine.specs.ShardSteps.{ShardState, ShardStep, no_state, shard_over}

-- the shards over these nodes, numbered from i on, of this many
abbrev pub shards_from : ℕ → ℕ → List NodeState → List ShardState
shards_from count i [] = []
shards_from count i (n ∷ ns) = shard_over count i n ∷ shards_from count (suc i) ns

-- all shards over these nodes
abbrev pub shards_over : List NodeState → List ShardState
shards_over nodes = shards_from (length nodes) 0 nodes

-- the shards with which turns opened
abbrev pub openings : List ShardTurn → List ShardState
openings turns = map (λ t. t.opening) turns

-- the shard of this number, from 0
abbrev pub state_at : List ShardState → ℕ → ShardState
state_at shards i = slice_index_or shards i no_state

-- all shards of the replica of this number, each with its own
pub record AreNumbered (id : ℕ) (shards : List ShardState) : Type 0 where
  pub count : IsShardCount (length shards)
  pub counts : (i : ℕ) → i < length shards → (state_at shards i).count ≡ length shards
  pub numbers : (i : ℕ) → i < length shards → (state_at shards i).number ≡ i
  pub ids : (i : ℕ) → i < length shards → (state_at shards i).node.id ≡ id

-- the passes are the first ones of their turns: they have seen nothing and called nothing
pub record AreFirst (turns : List ShardTurn) (passes : List ShardPass) : Type 0 where
  pub count : length passes ≡ length turns
  pub tables : (i : ℕ) → i < length turns → (shard_pass passes i).table ≡ (shard_turn turns i).table
  pub views : (i : ℕ) → i < length turns
      → known_of passes i ≡ first_pass (shard_turn turns i).opening

-- a new pass has seen what the old one has, with a number of its own, and made no call
abbrev pub IsSplit : Known → Known → Type 0
IsSplit old new = (n : ℕ) × (new ≡ new_pass old n) × (calls_by n old.seen ≡ [])

-- of each shard a new pass has seen what the old one has, with a number of its own, and made no
-- call
pub record AreSplit (old new : List ShardPass) : Type 0 where
  pub count : length new ≡ length old
  pub each : (i : ℕ) → i < length old → IsSplit (known_of old i) (known_of new i)

-- the pass with half of its share of the right to close
abbrev pub with_half : ShardPass → ShardPass
with_half p = record p { view = halved p.view }

-- each pass gave half of its share away, and is otherwise unchanged
pub record AreHalved (old new : List ShardPass) : Type 0 where
  pub count : length new ≡ length old
  pub each : (i : ℕ) → i < length old → shard_pass new i ≡ with_half (shard_pass old i)

-- the passes of another thread were ended into these, shard by shard
pub record PassesAreJoined (old other new : List ShardPass) : Type 0 where
  pub count : length new ≡ length old
  pub each : (i : ℕ) → i < length old
      → Joined ShardStep (known_of old i) (known_of other i) (known_of new i)

-- the node of a closed shard is in a state that a legal history reaches, which begins with what the
-- pass has seen. Or the pass did not have the whole right to close, a call of the shard was under
-- way, and the node is lost: the words of `Busy` are those of a state that the rule of the turn
-- allows, in which a pass knows what this one does
abbrev pub ClosesShard : ShardTurn → Known → Result NodeState Busy → Type 0
ClosesShard turn known (Ok node) = (s : ShardState) × (s.node ≡ node)
    × IsLast ShardStep turn.opening known s
ClosesShard turn known (Err busy) = (busy.serving < busy.ticket) × MarkShows known busy
    × (¬ IsWhole known.share) × AreWords (λ (s : ShardState). s) ShardStep turn.opening known busy

-- Each shard was closed: its node is in a state that a legal history reaches, or the node is lost,
-- as the pass did not have the whole right to close and a call was under way.
pub record AreClosed (turns : List ShardTurn) (passes : List ShardPass)
    (nodes : List (Result NodeState Busy)) : Type 0 where
  pub count : length nodes ≡ length turns
  pub each : (i : ℕ) (d : Result NodeState Busy) → i < length turns
      → ClosesShard (shard_turn turns i) (known_of passes i) (slice_index_or nodes i d)

-- why shards are not closed, if the thread holds this many pins
abbrev pub IsCloseRefused : ℕ → SharedFault → Type 0
IsCloseRefused pins PinsHeld = pins ≢ 0
IsCloseRefused pins (Node Memory) = pins ≡ 0
IsCloseRefused pins why = ⊥

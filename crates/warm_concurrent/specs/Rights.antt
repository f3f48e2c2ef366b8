-- The right to close shards: where it is, and what a close gives back.
use Rattle.std.specs.Prelude.{◌≡◌, ℕ, ◌<◌, List, [], ◌∷◌, ◌++◌, length, map, Result, Ok}
use Rattle.warm_turn.specs.declared.fault.Busy.{Busy}
use Rattle.warm_turn.specs.Shares.{IsWhole}
use Rattle.warm_gossip.specs.State.{NodeState}
use Rattle.warm_concurrent.specs.Attached.{ShardPass, ShardTurn, known_of}
use Rattle.warm_concurrent.specs.Laws.{OverCalls}
use Rattle.warm_concurrent.specs.Opening.{AreClosed, AreFirst, AreHalved, AreSplit, PassesAreJoined}

-- a thread has as much of the right to close each shard as it had
pub record KeepsRight (old new : List ShardPass) : Type 0 where
  pub count : length new ≡ length old
  pub shares : (i : ℕ) → i < length old → (known_of new i).share ≡ (known_of old i).share

-- a thread has the whole right to close each of this many shards
abbrev pub HasWholeRight : ℕ → List ShardPass → Type 0
HasWholeRight count passes = (i : ℕ) → i < count → IsWhole (known_of passes i).share

-- each node is given back
abbrev pub AreGivenBack : List (Result NodeState Busy) → Type 0
AreGivenBack results = (nodes : List NodeState) × (results ≡ map (λ n. Ok n) nodes)

-- what all threads have of the shards, each its passes
abbrev pub Threads : Type 0
Threads = List (List ShardPass)

-- One thread makes calls, or it attaches another, or another is detached into it. Two threads may
-- also be named in the other order.
abbrev pub Moves : Threads → Threads → Type 0
Moves (p ∷ []) (q ∷ []) = KeepsRight p q
Moves (p ∷ []) (q ∷ more ∷ []) = AreHalved p q × AreSplit p more
Moves (p ∷ other ∷ []) (q ∷ []) = PassesAreJoined p other q
Moves (p ∷ other ∷ []) (q ∷ r ∷ []) = (q ≡ other) × (r ≡ p)
Moves old new = ⊥

-- these threads move, and all other threads have what they had
pub record ThreadsMove (old new : Threads) : Type 0 where
  pub before : Threads
  pub after : Threads
  pub these : Threads
  pub left : Threads
  pub old_are : old ≡ before ++ these ++ after
  pub new_are : new ≡ before ++ left ++ after
  pub moves : Moves these left

-- what threads have after moves, one after another, with what they had after each
abbrev pub Come : Threads → List Threads → Threads → Type 0
Come old [] new = old ≡ new
Come old (next ∷ more) new = ThreadsMove old next × Come next more new

-- Calls of a thread leave its right to close, those too that are refused. Whatever threads were
-- attached, made calls and were detached, one that is left alone has the whole right. Whoever has
-- it gets all nodes from a close.
pub record NodesComeBack : Type 0 where
  pub calls : OverCalls KeepsRight
  pub alone : (turns : List ShardTurn) (first last : List ShardPass) (between : List Threads)
      → AreFirst turns first → Come (first ∷ []) between (last ∷ [])
      → HasWholeRight (length turns) last
  pub closed : (turns : List ShardTurn) (passes : List ShardPass)
      (results : List (Result NodeState Busy)) → HasWholeRight (length turns) passes
      → AreClosed turns passes results → AreGivenBack results

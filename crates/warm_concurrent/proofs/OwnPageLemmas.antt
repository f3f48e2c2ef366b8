-- Shards hold their own pages alone as they are opened, and as they are closed.
use Rattle.std.proofs.Common.{◌≡◌, ℕ, zero, suc, ◌<◌, List, [], ◌∷◌, length, Ok, refl, sym, subst, arith}
use Rattle.warm_gossip.specs.State.{NodeState}
use Rattle.warm_shards.specs.Shards.{AreShards, HoldsShard, shard_at}
use Rattle.warm_shard_machine.proofs.OwnPageLemmas.{HoldsOwn, run_holds}
use Rattle.warm_concurrent.specs.Attached.{Known, ShardTurn}
use Rattle.warm_concurrent.specs.Laws.{ShardsHoldTheirPages}
use Rattle.warm_concurrent.specs.Opening.{ClosesShard, shards_from, shards_over, state_at}

pub node_at : (count j : ℕ) (ns : List NodeState) (i : ℕ) → i < length ns
    → (state_at (shards_from count j ns) i).node ≡ shard_at ns i
node_at count j [] i lt = absurd (omega arith)
node_at count j (n ∷ ns) zero lt = refl
node_at count j (n ∷ ns) (suc i) lt = node_at count (suc j) ns i (omega arith)

opened : (ns : List NodeState) (i : ℕ) → AreShards ns → i < length ns
    → HoldsShard (length ns) i (state_at (shards_over ns) i).node
opened ns i are lt =
    subst (HoldsShard (length ns) i) (sym (node_at (length ns) 0 ns i lt)) (are.each i lt).own

closed : (turn : ShardTurn) (known : Known) (n : NodeState) → HoldsOwn turn.opening
    → ClosesShard turn known (Ok n)
    → HoldsShard turn.opening.count turn.opening.number n
closed turn known n own (s, same, last) =
    subst (λ m. HoldsShard turn.opening.count turn.opening.number m) same (run_holds turn.opening s last.history own last.reaches)

pub shards_hold_their_pages : ShardsHoldTheirPages
shards_hold_their_pages = record { opened = opened; called = run_holds; closed = closed }

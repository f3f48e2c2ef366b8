-- Lending the bytes of a page of one shard, to be written to.
use Rattle.std.specs.Prelude.{ℕ, List, slice_set}
use Rattle.std.specs.Borrow.{Lends, MutBor, Fml, Array, RattleType, u8}
use Rattle.std.specs.Vec.{with_item}
use Rattle.std_alloc.specs.contracts.vec.Vec.{the_row as vec_row}
use Rattle.std.specs.contracts.alloc.Global.{the_row as global_row}
use Rattle.std.specs.contracts.impls.GlobalAllocator.TheImpl.{ghosts as heap}
use Rattle.warm_devices.specs.declared.device.PageDevice.{Ghosts}
use Rattle.warm_gossip.specs.contracts.node.Node.{the_row as node_row}
use Rattle.warm_gossip.specs.Lending.{relent_node}
use Rattle.warm_gossip.specs.State.{NodeState}
use Rattle.warm_shards.specs.contracts.shards.Shards.{the_row}
use Rattle.warm_shards.specs.Shards.{shard_at}

-- the shards after w was left in the bytes of this frame of one of them
abbrev pub relent_shards : List NodeState → ℕ → ℕ → List ℕ → List NodeState
relent_shards shards i frame w = slice_set shards i (relent_node (shard_at shards i) frame w)

module _ (D : RattleType) (ghosts : Ghosts D.Denot) where
  -- The page of a frame of one shard is lent until r ends. What r then holds is the page's content,
  -- and the page is dirty.
  abbrev pub LendsShardPage : MutBor (List NodeState) → ℕ → ℕ → MutBor (List ℕ) → Fml
  LendsShardPage s i frame r =
      Lends (the_row D ghosts) (Array u8 0) s r (λ w. relent_shards s.now i frame w)

  -- a vector of nodes, as a type of Rattle
  abbrev pub nodes_row : RattleType
  nodes_row = vec_row (node_row D ghosts) global_row heap

  -- The page of a frame of one node of a vector is lent until r ends. What r then holds is the
  -- page's content, and the page is dirty.
  abbrev pub LendsPageIn : MutBor nodes_row.Denot → ℕ → ℕ → MutBor (List ℕ) → Fml
  LendsPageIn s i frame r = Lends nodes_row (Array u8 0) s r
      (λ w. with_item s.now i (relent_node (shard_at s.now.items i) frame w))

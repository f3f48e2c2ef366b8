-- Lending the bytes of a page of a node's pool, to be written to.
use Rattle.std.specs.Prelude.{◌≡◌, ℕ, List, length}
use Rattle.std.specs.Borrow.{Lends, MutBor, Fml, Array, RattleType, u8}
use Rattle.warm_devices.specs.declared.device.PageDevice.{Ghosts}
use Rattle.warm_pool.specs.declared.slot.Slot.{Slot}
use Rattle.warm_pool.specs.State.{IsPool}
use Rattle.warm_pool.specs.View.{view_of, Holds}
use Rattle.warm_pool.specs.PageBytes.{MakesDirty}
use Rattle.warm_pool.specs.Lending.{relent_pool}
use Rattle.warm_gossip.specs.contracts.node.Node.{the_row}
use Rattle.warm_gossip.specs.declared.call.Call.TheVariants.{Write}
use Rattle.warm_gossip.specs.declared.call.Reply.TheVariants.{Done}
use Rattle.warm_gossip.specs.State.{NodeState}
use Rattle.warm_gossip.specs.Clauses.{Goes}

-- the node after w was left in the bytes of this frame
abbrev pub relent_node : NodeState → ℕ → List ℕ → NodeState
relent_node s i w = record s { pool = relent_pool s.pool i w }

-- The page of a frame is lent until r ends. What r then holds is the page's content, and the page
-- is dirty.
module _ (D : RattleType) (ghosts : Ghosts D.Denot) where
  abbrev pub LendsNodePage : MutBor NodeState → ℕ → MutBor (List ℕ) → Fml
  LendsNodePage s i r = Lends (the_row D ghosts) (Array u8 0) s r (λ w. relent_node s.now i w)

-- What was left in the bytes of a page that were lent is as after the call that writes it: that
-- call leads there, and the page is dirty, and nothing else has changed.
abbrev pub LentBytesAreWritten : Type 0
LentBytesAreWritten = (s : NodeState) (slot : Slot) (w : List ℕ) → IsPool s.pool
    → Holds (view_of s.pool) slot → length w ≡ s.pool.page_size
    → Goes s (Write slot 0 w) Done (relent_node s slot.index w)
    × MakesDirty s.pool slot (relent_pool s.pool slot.index w)

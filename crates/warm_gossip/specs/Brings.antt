-- Which pages a call brings into the frames of a node.
use Rattle.std.specs.Prelude.{◌≡◌, ℕ, ◌⊎◌, Some}
use Rattle.warm_stamps.specs.declared.PageId.{PageId}
use Rattle.warm_pool.specs.View.{PoolView, IsResident, frame_at}
use Rattle.warm_gossip.specs.declared.call.Call.{Call}
use Rattle.warm_gossip.specs.declared.call.Call.TheVariants.{Pin, WarmStep}
use Rattle.warm_gossip.specs.declared.call.Reply.{Reply}
use Rattle.warm_gossip.specs.State.{NodeView}
use Rattle.warm_gossip.specs.Step.{IsNextWarm, Step}

-- each page in a frame of the new pool was in a frame of the old one, or is one that was brought
abbrev pub BringsOnly : (PageId → Type 0) → PoolView → PoolView → Type 0
BringsOnly brought old new = (i : ℕ) (p : PageId) → (frame_at new i).page ≡ Some p
    → IsResident old p ⊎ brought p

-- the page that a call brings: that of a pin, and that which a warm-up step loads next
abbrev pub Brings : NodeView → Call → PageId → Type 0
Brings old (Pin p) q = q ≡ p
Brings old WarmStep q = IsNextWarm old (Some q)
Brings old call q = ⊥

-- after a call with any reply, each page in a frame was in one before, or the call brings it
abbrev pub CallsBringOnly : Type 0
CallsBringOnly = (old new : NodeView) (call : Call) (reply : Reply) → Step old call reply new
    → BringsOnly (Brings old call) old.pool new.pool

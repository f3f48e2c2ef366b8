-- A page that was pinned is held, and what was left in its bytes is written.
use Rattle.std.proofs.Common.{◌≡◌, ℕ, ◌<◌, ◌+◌, inl, inr, List, length, refl, sym, ap, subst, ◌∙◌, arith}
use Rattle.std.proofs.lemmas.List.{get_or-set_same, length-set}
use Rattle.warm_stamps.specs.declared.PageId.{PageId}
use Rattle.warm_pool.specs.declared.slot.Slot.{Slot}
use Rattle.warm_pool.specs.PageBytes.{IsLent}
use Rattle.warm_pool.specs.Pinning.{AddsFix, CanPinAgain, unpinned}
use Rattle.warm_pool.specs.Unchanged.{KeepsBytes}
use Rattle.warm_pool.specs.Lending.{relent_pool}
use Rattle.warm_pool.specs.State.{IsPool, PoolState}
use Rattle.warm_pool.specs.View.{FrameView, PoolView, frame_at, view_of, Holds}
use Rattle.warm_pool.proofs.PinLemmas.{puts_holds}
use Rattle.warm_pool.proofs.UndonePinLemmas.{either_first, kept_again, lent_meanwhile, pinned_once, pinned_pool, pins_once, relent_can, relent_is_pool, takes_once, undone}
use Rattle.warm_gossip.specs.declared.call.Call.TheVariants.{Pin, Unpin, Write}
use Rattle.warm_gossip.specs.declared.call.Reply.TheVariants.{Done, Pinned}
use Rattle.warm_gossip.specs.Lending.{relent_node}
use Rattle.warm_gossip.specs.State.{NodeState, NodeView, node_view}
use Rattle.warm_gossip.specs.Step.{Refuses, Step}
use Rattle.warm_gossip.specs.declared.fault.NodeFault.{NodeFault}
use Rattle.warm_gossip.specs.declared.fault.NodeFault.TheVariants.{StaleSlot}
use Rattle.warm_gossip.proofs.LendingLemmas.{lent_bytes}
use Rattle.warm_shard_machine.specs.ShardSteps.{CallStep, Changes, Looks}

adds_holds : (v w : PoolView) (p : PageId) (slot : Slot) → AddsFix v p slot w → Holds w slot
adds_holds v w p slot x =
    let f : FrameView = record (frame_at v slot.index) { fixes = (frame_at v slot.index).fixes + 1 } in
    let seen : frame_at w slot.index ≡ f = ap (λ u. frame_at u slot.index) x.becomes ∙ get_or-set_same v.frames slot.index f _ x.there in
    record {
      there = subst (λ m. slot.index < m) (sym (ap (λ u. length u.frames) x.becomes ∙ length-set v.frames slot.index f)) x.there;
      current = x.current ∙ sym (ap (λ g. g.generation) seen);
      fixed = subst (λ g. 0 < g.fixes) (sym seen) (omega arith);
    }

-- a pinned page is held
pub pinned_holds : (o m : NodeView) (p : PageId) (slot : Slot) → Step o (Pin p) (Pinned slot) m
    → Holds m.pool slot
pinned_holds o m p slot step = elim step.1.1 [
  | inl adds ↦ adds_holds o.pool m.pool p slot adds
  | inr puts ↦ puts_holds o.history o.pool p slot m.pool puts
]

-- the bytes of a whole page that were left are written
pub left_written : (s : NodeState) (slot : Slot) (w : List ℕ) → IsPool s.pool
    → Holds (view_of s.pool) slot → length w ≡ s.pool.page_size
    → CallStep s (Write slot 0 w) Done (relent_node s slot.index w)
left_written s slot w pool holds size = lent_bytes s slot w pool holds size

-- and the page is still held
pub written_held : (o m : NodeView) (slot : Slot) (w : List ℕ) → Step o (Write slot 0 w) Done m
    → Holds m.pool slot
written_held o m slot w step =
    let h = step.0 in
    subst (λ v. Holds v slot) (sym step.1.1.becomes) (record { there = h.there; current = h.current; fixed = h.fixed })

-- a held page is unpinned
pub held_unpins : (o m : NodeView) (slot : Slot) (why : NodeFault) → Holds o.pool slot
    → Refuses o (Unpin slot) why m → ⊥
held_unpins o m slot StaleSlot held refused = refused.0 held
held_unpins o m slot why held refused = refused

-- A resident page that can be pinned was looked at, though it was not: the pin and the unpin would
-- leave the node as it was, and the bytes are those that would be lent meanwhile.
pub looks_unpinned : (n : NodeState) (p : PageId) (slot : Slot) (bytes : List ℕ) → IsPool n.pool
    → CanPinAgain n.pool p slot → IsLent (view_of n.pool) slot bytes → Looks n p slot bytes n
looks_unpinned n p slot bytes pool can lent =
    let mid : NodeState = record n { pool = pinned_once n.pool slot.index } in
    let pins : Step (node_view n) (Pin p) (Pinned slot) (node_view mid) = (refl, pins_once pool p slot can n.history) in
    record {
      mid = mid;
      pins = (pins, takes_once pool p slot can);
      lends = lent_meanwhile pool p slot can bytes lent;
      unpins = (
        (
          pinned_holds (node_view n) (node_view mid) p slot pins,
          ap (λ (v : PoolView). let m : NodeView = record (node_view n) { pool = v } in m) (undone pool p slot can),
        ),
        kept_again pool p slot can,
      );
    }

-- The same of a page that was changed: to pin it before the bytes are left in it, or after, comes to
-- the same.
pub changes_unpinned : (n : NodeState) (p : PageId) (slot : Slot) (before w : List ℕ)
    → IsPool n.pool → CanPinAgain n.pool p slot → IsLent (view_of n.pool) slot before
    → length w ≡ length before → Changes n p slot before w (relent_node n slot.index w)
changes_unpinned n p slot before w pool can lent size =
    let mid : NodeState = record n { pool = pinned_once n.pool slot.index } in
    let left : NodeState = relent_node mid slot.index w in
    let after : PoolState = relent_pool n.pool slot.index w in
    let pins : Step (node_view n) (Pin p) (Pinned slot) (node_view mid) = (refl, pins_once pool p slot can n.history) in
    let held : Holds (view_of mid.pool) slot = pinned_holds (node_view n) (node_view mid) p slot pins in
    let writes : CallStep mid (Write slot 0 w) Done left = left_written mid slot w (pinned_pool pool p slot can) held (size ∙ lent.size) in
    let same : left.pool ≡ pinned_once after slot.index = either_first pool p slot can w in
    let pool_after : IsPool after = relent_is_pool pool p slot can w in
    let can_after : CanPinAgain after p slot = relent_can pool p slot can w in
    let back : view_of after ≡ unpinned (view_of left.pool) slot = undone pool_after p slot can_after ∙ ap (λ (s : PoolState). unpinned (view_of s) slot) (sym same) in
    record {
      mid = mid;
      left = left;
      pins = (pins, takes_once pool p slot can);
      lends = lent_meanwhile pool p slot can before lent;
      size = size;
      writes = writes;
      unpins = (
        (
          written_held (node_view mid) (node_view left) slot w writes.0,
          ap (λ (v : PoolView). let m : NodeView = record (node_view n) { pool = v } in m) back,
        ),
        subst (λ (s : PoolState). KeepsBytes s after) (sym same) (kept_again pool_after p slot can_after),
      );
    }

-- Pinning a page whose bytes C has read, and naming the page that C is to read next.
use Rattle.std.specs.Prelude.{ℕ, ◌≡◌, ◌≢◌, List, length, Option, Ok, Err}
use Rattle.warm_stamps.specs.declared.PageId.{PageId}
use Rattle.warm_pool.specs.Calls.{FlushesNone, ReadsNone}
use Rattle.warm_pool.specs.Filling.{TakesFilled}
use Rattle.warm_pool.specs.Unchanged.{KeepsFrames}
use Rattle.warm_pool.specs.Zeroing.{LeavesUnread}
use Rattle.warm_pool.specs.declared.fault.NewPoolFault.TheVariants.{SizeDiffers}
use Rattle.warm_pool.specs.declared.fault.PoolFault.TheVariants.{ReadFault}
use Rattle.warm_gossip.specs.declared.call.Call.TheVariants.{Pin}
use Rattle.warm_gossip.specs.declared.call.Reply.{Reply}
use Rattle.warm_gossip.specs.declared.call.Reply.TheVariants.{Pinned, Refused}
use Rattle.warm_gossip.specs.declared.fault.NodeFault.TheVariants.{Memory, Pool}
use Rattle.warm_gossip.specs.Clauses.{Goes}
use Rattle.warm_gossip.specs.State.{node_view}
use Rattle.warm_gossip.specs.Step.{IsNextWarm}
use Rattle.warm_c_calls.specs.declared.open_node.OpenNode.{OpenNode}
use Rattle.warm_c_base.specs.declared.status.Refusal.TheVariants.{NewPool, Node}
use Rattle.warm_c_base.specs.declared.values.PinnedSlot.{PinnedSlot}
use Rattle.warm_c_base.specs.declared.values.WarmPage.{WarmPage}
use Rattle.warm_c_calls.specs.Calls.{Ending, SameDevices}
use Rattle.warm_c_base.specs.Values.{IsOptionalPage, page_of_c, pinned_slot}

-- no device was read, and none was flushed
pub record CallsNone (old new : OpenNode) : Type 0 where
  pub unread : ReadsNone old.node.pool.devices new.node.pool.devices
  pub unflushed : FlushesNone old.node.pool.devices new.node.pool.devices

-- what a caller sees of the node changes as by a pin of the page with this reply
abbrev pub LooksPinned : WarmPage → Reply → OpenNode → OpenNode → Type 0
LooksPinned page reply old new = Goes old.node (Pin (page_of_c page)) reply new.node
    × SameDevices old new

-- The page is pinned as by a pin, but with these bytes if it was in no frame. They are as many as a
-- page has; else nothing has changed. It is refused as a pin is, but for a read that failed: no
-- frame has changed, and only the write of the victim called a device.
abbrev pub PinsFilled : WarmPage → List ℕ → PinnedSlot → PinnedSlot → OpenNode → Ending → OpenNode
    → Type 0
PinsFilled page bytes before after old (Ok given) new =
    LooksPinned page (Pinned (pinned_slot after)) old new
    × (length bytes ≡ old.node.pool.page_size)
    × TakesFilled old.node.pool (page_of_c page) bytes (pinned_slot after) new.node.pool
PinsFilled page bytes before after old (Err (NewPool SizeDiffers)) new =
    (length bytes ≢ old.node.pool.page_size) × (new ≡ old) × (after ≡ before)
PinsFilled page bytes before after old (Err (Node (Pool why))) new = (why ≢ ReadFault)
    × LooksPinned page (Refused (Pool why)) old new
    × LeavesUnread old.node.history old.node.pool why new.node.pool
    × KeepsFrames old.node.pool new.node.pool × CallsNone old new × (after ≡ before)
PinsFilled page bytes before after old (Err why) new = ⊥

-- the page that a warm-up step would load is given, if there is one; the node is as it was
abbrev pub NamesNext : ℕ → WarmPage → ℕ → WarmPage → OpenNode → Ending → OpenNode → Type 0
NamesNext found page found' page' old (Ok given) new = (next : Option PageId)
    × IsNextWarm (node_view old.node) next × IsOptionalPage next page found' page' × (new ≡ old)
NamesNext found page found' page' old (Err (Node Memory)) new = (new ≡ old) × (found' ≡ found)
    × (page' ≡ page)
NamesNext found page found' page' old (Err why) new = ⊥

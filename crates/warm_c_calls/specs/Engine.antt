-- What the calls do by which an engine holds its pages: beside pins, reads and writes.
use Rattle.std.specs.Prelude.{ℕ, ◌≡◌, Bool, IsTrue, Option, Ok, Err}
use Rattle.warm_pool.specs.declared.dirty.DirtyFrame.{DirtyFrame}
use Rattle.warm_pool.specs.declared.fault.PoolFault.TheVariants.{Fault}
use Rattle.warm_pool.specs.Calls.{FlushesOnce}
use Rattle.warm_pool.specs.Forgetting.{ForgetRefused, Forgets, MayForget}
use Rattle.warm_pool.specs.Unchanged.{KeepsFrames, SameButFailures}
use Rattle.warm_pool.specs.Retiring.{KeepsElsewhere}
use Rattle.warm_pool.specs.View.{view_of, Holds}
use Rattle.warm_pool.specs.WritingSome.{FlushRefused, IsDirty, IsNextDirty, IsSettledOn}
use Rattle.warm_pool.specs.WritingSome.{KeepsOtherDevices, PageFails, WritesBackPage}
use Rattle.warm_pool.specs.Zeroing.{LeavesUnread, PinnedZeroed, TakesZeroed, ZeroedRefused}
use Rattle.warm_gossip.specs.declared.fault.NodeFault.TheVariants.{Pool}
use Rattle.warm_gossip.specs.Clauses.{SameView}
use Rattle.warm_c_calls.specs.declared.open_node.OpenNode.{OpenNode}
use Rattle.warm_c_base.specs.declared.status.Refusal.TheVariants.{Node}
use Rattle.warm_c_base.specs.declared.values.PinnedSlot.{PinnedSlot}
use Rattle.warm_c_base.specs.declared.values.WarmPage.{WarmPage}
use Rattle.warm_c_calls.specs.Calls.{Ending, SameDevices}
use Rattle.warm_c_base.specs.Values.{IsBool, IsOptionalDirty, page_of_c, pinned_slot}

-- the id, the history and the devices that the handle was given are as they were
pub record SameButPool (old new : OpenNode) : Type 0 where
  pub id : new.node.id ≡ old.node.id
  pub history : new.node.history ≡ old.node.history
  pub devices : SameDevices old new

-- Of all devices and frames, only this device and the frames of its pages may have changed. No
-- device was flushed more than once.
pub record ChangesOne (dev : ℕ) (old new : OpenNode) : Type 0 where
  pub elsewhere : KeepsElsewhere dev old.node.pool new.node.pool
  pub others : KeepsOtherDevices dev old.node.pool new.node.pool
  pub once : FlushesOnce old.node.pool.devices new.node.pool.devices

-- Pinning with zeros

-- the page is pinned, has zeros, and is dirty
pub record PinnedWithZeros (page : WarmPage) (slot : PinnedSlot) (old new : OpenNode) : Type 0 where
  pub pinned : PinnedZeroed old.node.history (view_of old.node.pool) (page_of_c page)
      (pinned_slot slot) (view_of new.node.pool)
  pub holds : Holds (view_of new.node.pool) (pinned_slot slot)
  pub frame : TakesZeroed old.node.pool (page_of_c page) (pinned_slot slot) new.node.pool
  pub rest : SameButPool old new

-- the page is pinned, has zeros, and is dirty; or the call says why not
abbrev pub PinsZeroed : WarmPage → PinnedSlot → PinnedSlot → OpenNode → Ending → OpenNode → Type 0
PinsZeroed page before after old (Ok given) new = PinnedWithZeros page after old new
PinsZeroed page before after old (Err (Node (Pool why))) new =
    ZeroedRefused old.node.history (view_of old.node.pool) (page_of_c page) why
    (view_of new.node.pool)
    × SameButFailures (view_of old.node.pool) (view_of new.node.pool)
    × LeavesUnread old.node.history old.node.pool why new.node.pool
    × KeepsFrames old.node.pool new.node.pool × SameButPool old new × (after ≡ before)
PinsZeroed page before after old (Err why) new = ⊥

-- Writing back

-- the page is written back if it is dirty, and whether it was is given; a refused call gives
-- nothing
abbrev pub NodeWritesBackPage : WarmPage → ℕ → ℕ → OpenNode → Ending → OpenNode → Type 0
NodeWritesBackPage page before written old (Ok given) new = (was_dirty : Bool)
    × SameView old.node new.node
    × WritesBackPage old.node.pool (page_of_c page) was_dirty new.node.pool
    × IsBool written (IsTrue was_dirty) × SameDevices old new
NodeWritesBackPage page before written old (Err (Node (Pool Fault))) new =
    PageFails old.node.pool (page_of_c page) new.node.pool × SameButPool old new
    × (written ≡ before)
NodeWritesBackPage page before written old (Err why) new = ⊥

-- whether the page is in a frame and dirty
abbrev pub SaysDirty : WarmPage → ℕ → OpenNode → OpenNode → Type 0
SaysDirty page number old new =
    IsBool number (IsDirty old.node.pool (page_of_c page)) × (new ≡ old)

-- the first dirty frame from a number on is given, and its page, if there is one
abbrev pub NamesDirty : ℕ → ℕ → WarmPage → ℕ → ℕ → WarmPage → OpenNode → OpenNode → Type 0
NamesDirty from frame page found frame' page' old new = (next : Option DirtyFrame)
    × IsNextDirty old.node.pool from next × IsOptionalDirty next frame page found frame' page'
    × (new ≡ old)

-- the pages of one device are written back and it is flushed, or the call says why not
abbrev pub FlushesDevice : ℕ → OpenNode → Ending → OpenNode → Type 0
FlushesDevice dev old (Ok given) new = SameView old.node new.node × IsSettledOn dev new.node.pool
    × ChangesOne dev old new × SameDevices old new
FlushesDevice dev old (Err (Node (Pool why))) new =
    FlushRefused old.node.pool dev why new.node.pool × ChangesOne dev old new × SameButPool old new
FlushesDevice dev old (Err why) new = ⊥

-- Forgetting pages

-- the pages of a device from a number on leave their frames unwritten, or the call says why not
abbrev pub ForgetsPages : ℕ → ℕ → OpenNode → Ending → OpenNode → Type 0
ForgetsPages dev from old (Ok given) new = Forgets old.node.pool dev from new.node.pool
    × SameButPool old new
ForgetsPages dev from old (Err (Node (Pool why))) new =
    ForgetRefused old.node.pool dev from why new.node.pool × SameButPool old new
ForgetsPages dev from old (Err why) new = ⊥

-- whether the pages of a device from a number on would be forgotten; nothing has changed
abbrev pub SaysMayForget : ℕ → ℕ → OpenNode → Ending → OpenNode → Type 0
SaysMayForget dev from old (Ok given) new = MayForget old.node.pool dev from × (new ≡ old)
SaysMayForget dev from old (Err (Node (Pool why))) new =
    ForgetRefused old.node.pool dev from why old.node.pool × (new ≡ old)
SaysMayForget dev from old (Err why) new = ⊥

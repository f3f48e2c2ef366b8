-- A shard as a machine: the calls of a node that it answers, and its steps.
use Rattle.std.specs.Prelude.{◌≡◌, ◌≢◌, ◌↔◌, ℕ, ◌%◌, IsTrue, List, length, Option, Some, None}
use Rattle.std.specs.Prelude.{Result, Ok, Err}
use Rattle.boxcar.specs.declared.tag.Tag.{Tag}
use Rattle.warm_stamps.specs.declared.PageId.{PageId}
use Rattle.warm_pool.specs.declared.slot.Slot.{Slot}
use Rattle.warm_pool.specs.declared.fault.PoolFault.TheVariants.{SizeDiffers}
use Rattle.warm_pool.specs.Filling.{TakesFilled}
use Rattle.warm_pool.specs.Forgetting.{ForgetRefused, Forgets}
use Rattle.warm_devices.specs.Device.{DeviceState}
use Rattle.warm_pool.specs.Unchanged.{KeepsFrames}
use Rattle.warm_pool.specs.Outcomes.{FlushDeviceFails, ReplacesDevice, RetireFails, SettlesDevice}
use Rattle.warm_pool.specs.Outcomes.{UnreadPinFails, WritePageFails, WritesPageBack}
use Rattle.warm_pool.specs.PageBytes.{IsLent}
use Rattle.warm_pool.specs.State.{IsSettled}
use Rattle.warm_pool.specs.View.{view_of}
use Rattle.warm_pool.specs.WritingBack.{WriteBackFails}
use Rattle.warm_pool.specs.WritingSome.{CleansFirst, SomeFails, WritesBackSome}
use Rattle.warm_pool.specs.Zeroing.{LeavesUnread, PinnedZeroed, TakesZeroed, ZeroedRefused}
use Rattle.warm_gossip.specs.declared.call.Call.{Call}
use Rattle.warm_gossip.specs.declared.call.Call.TheVariants as node_call
use Rattle.warm_gossip.specs.declared.call.Reply.{Reply}
use Rattle.warm_gossip.specs.declared.call.Reply.TheVariants as node_reply
use Rattle.warm_gossip.specs.declared.fault.NodeFault.{NodeFault}
use Rattle.warm_gossip.specs.declared.fault.NodeFault.TheVariants.{Memory, Pool}
use Rattle.warm_gossip.specs.Clauses.{DevicesAfter, Goes, NodeWriteBackFails, OfPool}
use Rattle.warm_gossip.specs.Clauses.{SameView}
use Rattle.warm_peer.specs.Since.{HasMoreSince, sent_since}
use Rattle.warm_gossip.specs.Engine.{KeepsKnown}
use Rattle.warm_gossip.specs.State.{NodeState, node_view}
use Rattle.warm_gossip.specs.Step.{IsNextWarm}
use Rattle.warm_shards.specs.Shards.{no_shard}
use Rattle.warm_visits.specs.ShardNumbers.{shard_of}
use Rattle.warm_visits.specs.Visits.{HasEntered, VisitState}
use Rattle.warm_shard_machine.specs.declared.calls.ShardCall.{ShardCall}
use Rattle.warm_shard_machine.specs.declared.calls.ShardCall.TheVariants.{Raise, Pin, Unpin}
use Rattle.warm_shard_machine.specs.declared.calls.ShardCall.TheVariants.{Read, Write, Victim}
use Rattle.warm_shard_machine.specs.declared.calls.ShardCall.TheVariants.{WarmStep, WarmList}
use Rattle.warm_shard_machine.specs.declared.calls.ShardCall.TheVariants.{Send, SendSince}
use Rattle.warm_shard_machine.specs.declared.calls.ShardCall.TheVariants.{WritePages, WriteSome}
use Rattle.warm_shard_machine.specs.declared.calls.ShardCall.TheVariants.{WriteBack, Look, Change}
use Rattle.warm_shard_machine.specs.declared.calls.ShardCall.TheVariants.{PinZeroed, ForgetPages}
use Rattle.warm_shard_machine.specs.declared.calls.ShardCall.TheVariants.{Retire, FlushDevice}
use Rattle.warm_shard_machine.specs.declared.calls.ShardCall.TheVariants.{PinFilled, WarmNext}
use Rattle.warm_shard_machine.specs.declared.calls.ShardCall.TheVariants.{Enter, WritePage}
use Rattle.warm_shard_machine.specs.Entering.{IsNextAt}
use Rattle.warm_shard_machine.specs.ToldDevices.{IsTold}
use Rattle.warm_shard_machine.specs.declared.calls.ShardReply.{ShardReply}
use Rattle.warm_shard_machine.specs.declared.calls.ShardReply.TheVariants.{Done, Kept, Pinned, Bytes}
use Rattle.warm_shard_machine.specs.declared.calls.ShardReply.TheVariants.{Page, Loaded, Sent}
use Rattle.warm_shard_machine.specs.declared.calls.ShardReply.TheVariants.{Foreign, Pages}
use Rattle.warm_shard_machine.specs.declared.calls.ShardReply.TheVariants.{Portion, Dirty, Refused}
use Rattle.warm_shard_machine.specs.declared.calls.ShardReply.TheVariants.{Looked, Changed}
use Rattle.warm_shard_machine.specs.declared.calls.ShardReply.TheVariants.{Entered, Replaced, WasDirty}

-- a shard: how many there are, its number, and its node
pub record ShardState : Type 0 where
  pub count : ℕ
  pub number : ℕ
  pub node : NodeState

-- the shard of this number over a node
abbrev pub shard_over : ℕ → ℕ → NodeState → ShardState
shard_over count number node = record { count = count; number = number; node = node }

-- no shard
abbrev pub no_state : ShardState
no_state = shard_over 0 0 no_shard

-- Calls and replies

-- What a node does in one step: a call; to write back all pages, some, one, or all with a flush; to
-- write back those of a device, and flush it; a pin of a page that gets zeros, or that gets these
-- bytes; to name the page that a warm-up step would load; to forget the pages of a device from a
-- number on; to send what is new in a bucket since a time, after a page; to replace a device with
-- another; or what a visit of so many shards asks of that of this number.
pub data Work : Type 0 where
  calling : Call → Work
  writing_pages : Work
  writing_some : ℕ → Work
  writing_page : PageId → Work
  writing_back : Work
  flushing : ℕ → Work
  zeroing : PageId → Work
  filling : PageId → List ℕ → Work
  naming_next : Work
  forgetting : ℕ → ℕ → Work
  sending_since : ℕ → ℕ → Option PageId → Work
  retiring : ℕ → Tag → Work
  entering : ℕ → ℕ → VisitState → Work

-- what a shard asks of its node: one step; or several calls in one turn, of a page that is looked
-- at, or changed
pub data Asked : Type 0 where
  doing : Work → Asked
  looking : PageId → Asked
  changing : PageId → Asked

-- a call of the node is asked for
abbrev pub of_node : Call → Asked
of_node call = doing (calling call)

-- what this call asks of the node
abbrev pub asked_of : ShardCall → Asked
asked_of (Raise time) = of_node (node_call.Horizon time)
asked_of (Pin page) = of_node (node_call.Pin page)
asked_of (PinZeroed page) = doing (zeroing page)
asked_of (PinFilled page bytes) = doing (filling page bytes.numbers)
asked_of (Unpin slot) = of_node (node_call.Unpin slot)
asked_of (Read slot at len) = of_node (node_call.Read slot at len)
asked_of (Write slot at bytes) = of_node (node_call.Write slot at bytes)
asked_of Victim = of_node node_call.Victim
asked_of WarmStep = of_node node_call.WarmStep
asked_of WarmNext = doing naming_next
asked_of (WarmList n) = of_node (node_call.WarmList n)
asked_of (Send bucket after) = of_node (node_call.Send bucket after)
asked_of (SendSince bucket since after) = doing (sending_since bucket since after)
asked_of WritePages = doing writing_pages
asked_of (WriteSome limit) = doing (writing_some limit)
asked_of (WritePage page) = doing (writing_page page)
asked_of (FlushDevice dev) = doing (flushing dev)
asked_of WriteBack = doing writing_back
asked_of (ForgetPages dev from) = doing (forgetting dev from)
asked_of (Retire dev device) = doing (retiring dev device)
asked_of (Look page) = looking page
asked_of (Change page) = changing page
asked_of (Enter count number v) = doing (entering count number v)

-- the reply of a node that this is, if it is one
abbrev pub node_reply_of : ShardReply → Option Reply
node_reply_of Done = Some node_reply.Done
node_reply_of (Kept horizon) = Some (node_reply.Kept horizon)
node_reply_of (Pinned slot) = Some (node_reply.Pinned slot)
node_reply_of (Bytes bytes) = Some (node_reply.Bytes bytes)
node_reply_of (Page page) = Some (node_reply.Page page)
node_reply_of (Loaded page) = Some (node_reply.Loaded page)
node_reply_of (Pages pages) = Some (node_reply.Pages pages)
node_reply_of (Sent message) = Some (node_reply.Sent message)
node_reply_of (Refused why) = Some (node_reply.Refused why)
node_reply_of (Dirty left) = None
node_reply_of (WasDirty was_dirty) = None
node_reply_of (Portion message more) = None
node_reply_of (Replaced was) = None
node_reply_of (Looked slot bytes) = None
node_reply_of (Changed slot before after) = None
node_reply_of (Entered w) = None
node_reply_of Foreign = None

-- the number of the shard that has the pages of a bucket, of this many shards
abbrev pub shard_of_bucket : ℕ → ℕ → ℕ
shard_of_bucket count bucket = bucket % count

-- every page that the call brings is of the shard of this number, and a visit that it brings goes next
-- to this shard
abbrev pub IsOwn : ℕ → ℕ → ShardCall → Type 0
IsOwn count number (Pin page) = shard_of count page ≡ number
IsOwn count number (PinZeroed page) = shard_of count page ≡ number
IsOwn count number (PinFilled page bytes) = shard_of count page ≡ number
IsOwn count number (WritePage page) = shard_of count page ≡ number
IsOwn count number (Look page) = shard_of count page ≡ number
IsOwn count number (Change page) = shard_of count page ≡ number
IsOwn count number (Enter all next v) = (all ≡ count) × (next ≡ number)
IsOwn count number call = Unit {0}

-- Steps of a node

-- a call: what a caller of the node sees of it, and what it leaves of devices and dirty flags
abbrev pub CallStep : NodeState → Call → Reply → NodeState → Type 0
CallStep old call reply new = Goes old call reply new × DevicesAfter old call reply new

-- a call whose reply is one of a node: what a caller of the node sees of it, and what it leaves of
-- devices and dirty flags
abbrev pub CallGoes : NodeState → Call → Option Reply → NodeState → Type 0
CallGoes old call None new = ⊥
CallGoes old call (Some reply) new = CallStep old call reply new

-- A caller of a node sees no write-back. All dirty pages were written, since no more are dirty than
-- there are frames; or a write failed, after those of the pages before.
abbrev pub WritePagesStep : NodeState → ShardReply → NodeState → Type 0
WritePagesStep old Done new = SameView old new
    × CleansFirst (length old.pool.frames) old.pool new.pool
WritePagesStep old (Refused why) new = NodeWriteBackFails old why new
    × SomeFails (length old.pool.frames) old.pool new.pool
WritePagesStep old reply new = ⊥

-- A caller of a node sees no write-back. At most `limit` dirty pages were written, and `left` pages
-- are still dirty; or a write failed, after those of the pages before.
abbrev pub WriteSomeStep : NodeState → ℕ → ShardReply → NodeState → Type 0
WriteSomeStep old limit (Dirty left) new = SameView old new
    × WritesBackSome limit old.pool left new.pool
WriteSomeStep old limit (Refused why) new = NodeWriteBackFails old why new
    × SomeFails limit old.pool new.pool
WriteSomeStep old limit reply new = ⊥

-- whether the page was dirty, and is now written; or its write failed
abbrev pub WritePageStep : NodeState → PageId → ShardReply → NodeState → Type 0
WritePageStep old page (WasDirty was_dirty) new = KeepsKnown old new
    × WritesPageBack page old.pool was_dirty new.pool
WritePageStep old page (Refused why) new = KeepsKnown old new
    × OfPool (λ fault. WritePageFails page old.pool fault new.pool) why
WritePageStep old page reply new = ⊥

-- no page of the device is dirty, and it is not unflushed; or there is no such device, or a call of
-- it failed
abbrev pub FlushDeviceStep : NodeState → ℕ → ShardReply → NodeState → Type 0
FlushDeviceStep old dev Done new = KeepsKnown old new × SettlesDevice dev old.pool new.pool
FlushDeviceStep old dev (Refused why) new = KeepsKnown old new
    × OfPool (λ fault. FlushDeviceFails dev old.pool fault new.pool) why
FlushDeviceStep old dev reply new = ⊥

-- no page is dirty, and no device is unflushed; or a write or a flush failed
abbrev pub WriteBackStep : NodeState → ShardReply → NodeState → Type 0
WriteBackStep old Done new = SameView old new × IsSettled new.pool
WriteBackStep old (Refused why) new = NodeWriteBackFails old why new
    × WriteBackFails old.pool new.pool
WriteBackStep old reply new = ⊥

-- a pin of a page that gets zeros; it is refused as a pin is, but for a read that failed
abbrev pub PinZeroedStep : NodeState → PageId → ShardReply → NodeState → Type 0
PinZeroedStep old page (Pinned slot) new = KeepsKnown old new
    × PinnedZeroed old.history (view_of old.pool) page slot (view_of new.pool)
    × TakesZeroed old.pool page slot new.pool
PinZeroedStep old page (Refused why) new = KeepsKnown old new × KeepsFrames old.pool new.pool
    × OfPool (λ fault. ZeroedRefused old.history (view_of old.pool) page fault
    (view_of new.pool)) why
    × OfPool (λ fault. LeavesUnread old.history old.pool fault new.pool) why
PinZeroedStep old page reply new = ⊥

-- A pin, with these bytes for a page that is in no frame. They are as many as a page has; else it is
-- refused, and nothing has changed. A call that brought no bytes is refused as if no memory were
-- left.
abbrev pub PinFilledStep : NodeState → PageId → List ℕ → ShardReply → NodeState → Type 0
PinFilledStep old page bytes (Pinned slot) new = (length bytes ≡ old.pool.page_size)
    × Goes old (node_call.Pin page) (node_reply.Pinned slot) new
    × TakesFilled old.pool page bytes slot new.pool
PinFilledStep old page bytes (Refused (Pool SizeDiffers)) new =
    (length bytes ≢ old.pool.page_size) × (new ≡ old)
PinFilledStep old page bytes (Refused (Pool fault)) new = (length bytes ≡ old.pool.page_size)
    × Goes old (node_call.Pin page) (node_reply.Refused (Pool fault)) new
    × UnreadPinFails old.history page old.pool fault new.pool
PinFilledStep old page bytes (Refused Memory) new = new ≡ old
PinFilledStep old page bytes reply new = ⊥

-- the page that the next warm-up step would load, if there is one
abbrev pub WarmNextStep : NodeState → ShardReply → NodeState → Type 0
WarmNextStep old (Page page) new = IsNextWarm (node_view old) page × (new ≡ old)
WarmNextStep old (Refused why) new = (why ≡ Memory) × (new ≡ old)
WarmNextStep old reply new = ⊥

-- the pages of a device from a number on are forgotten, or it is refused
abbrev pub ForgetPagesStep : NodeState → ℕ → ℕ → ShardReply → NodeState → Type 0
ForgetPagesStep old dev from Done new = KeepsKnown old new × Forgets old.pool dev from new.pool
ForgetPagesStep old dev from (Refused why) new = KeepsKnown old new
    × OfPool (λ fault. ForgetRefused old.pool dev from fault new.pool) why
ForgetPagesStep old dev from reply new = ⊥

-- the message of what is new in a bucket since a time, and whether more follows
abbrev pub SendSinceStep : NodeState → ℕ → ℕ → Option PageId → ShardReply → NodeState → Type 0
SendSinceStep old bucket since after (Portion message more) new =
    (message ≡ sent_since old.id old.history bucket since after)
    × (IsTrue more ↔ HasMoreSince old.history bucket since after) × (new ≡ old)
SendSinceStep old bucket since after (Refused why) new = (why ≡ Memory) × (new ≡ old)
SendSinceStep old bucket since after reply new = ⊥

-- A device was replaced with one in the state that the call has, and the old one was given back in
-- the state that the reply has; or the pool refuses it. A call that brought no device is refused as
-- if no memory were left.
abbrev pub RetireStep : NodeState → ℕ → Tag → ShardReply → NodeState → Type 0
RetireStep old dev told (Replaced given) new = (device : DeviceState) × (was : DeviceState)
    × IsTold told device × IsTold given was × KeepsKnown old new
    × ReplacesDevice dev device old.pool was new.pool
RetireStep old dev told (Refused (Pool fault)) new = (device : DeviceState) × IsTold told device
    × KeepsKnown old new × RetireFails dev device old.pool fault new.pool
RetireStep old dev told (Refused Memory) new = new ≡ old
RetireStep old dev told reply new = ⊥

-- A visit that goes next to this shard, of so many, ran its errand; it is stopped if the node had no
-- memory. A call that brought no visit is refused as if no memory were left.
abbrev pub EnterStep : NodeState → ℕ → ℕ → VisitState → ShardReply → NodeState → Type 0
EnterStep old count number v (Entered w) new = IsNextAt count number v × HasEntered v old w new
EnterStep old count number v (Refused why) new = (why ≡ Memory) × (new ≡ old)
EnterStep old count number v reply new = ⊥

-- one step of a node, with the reply of the shard
abbrev pub NodeStep : NodeState → Work → ShardReply → NodeState → Type 0
NodeStep old (calling call) reply new = CallGoes old call (node_reply_of reply) new
NodeStep old writing_pages reply new = WritePagesStep old reply new
NodeStep old (writing_some limit) reply new = WriteSomeStep old limit reply new
NodeStep old (writing_page page) reply new = WritePageStep old page reply new
NodeStep old (flushing dev) reply new = FlushDeviceStep old dev reply new
NodeStep old writing_back reply new = WriteBackStep old reply new
NodeStep old (zeroing page) reply new = PinZeroedStep old page reply new
NodeStep old (filling page bytes) reply new = PinFilledStep old page bytes reply new
NodeStep old naming_next reply new = WarmNextStep old reply new
NodeStep old (forgetting dev from) reply new = ForgetPagesStep old dev from reply new
NodeStep old (sending_since bucket since after) reply new =
    SendSinceStep old bucket since after reply new
NodeStep old (retiring dev told) reply new = RetireStep old dev told reply new
NodeStep old (entering count number v) reply new = EnterStep old count number v reply new

-- Steps of a shard

-- A look at a page: the page is pinned, its bytes are lent, and it is unpinned.
pub record Looks (old : NodeState) (page : PageId) (slot : Slot) (bytes : List ℕ) (new : NodeState)
    : Type 0 where
  pub mid : NodeState
  pub pins : CallStep old (node_call.Pin page) (node_reply.Pinned slot) mid
  pub lends : IsLent (view_of mid.pool) slot bytes
  pub unpins : CallStep mid (node_call.Unpin slot) node_reply.Done new

-- A change of a page: the page is pinned, its bytes are lent, what is left in them is written as by
-- a write of all bytes of the page, and the page is unpinned.
pub record Changes (old : NodeState) (page : PageId) (slot : Slot) (before after : List ℕ)
    (new : NodeState) : Type 0 where
  pub mid : NodeState
  pub left : NodeState
  pub pins : CallStep old (node_call.Pin page) (node_reply.Pinned slot) mid
  pub lends : IsLent (view_of mid.pool) slot before
  pub size : length after ≡ length before
  pub writes : CallStep mid (node_call.Write slot 0 after) node_reply.Done left
  pub unpins : CallStep left (node_call.Unpin slot) node_reply.Done new

-- why a page is not pinned
abbrev pub IsNotPinned : NodeState → PageId → NodeFault → NodeState → Type 0
IsNotPinned old page why new = CallStep old (node_call.Pin page) (node_reply.Refused why) new

-- The step of a node that was asked to do some work, or to show or to change bytes of a page. A
-- look and a change are refused as a pin of the page is.
abbrev pub NodeGoes : NodeState → Asked → ShardReply → NodeState → Type 0
NodeGoes old (doing work) reply new = NodeStep old work reply new
NodeGoes old (looking page) (Looked slot bytes) new = Looks old page slot bytes.numbers new
NodeGoes old (looking page) (Refused why) new = IsNotPinned old page why new
NodeGoes old (looking page) reply new = ⊥
NodeGoes old (changing page) (Changed slot before after) new =
    Changes old page slot before.numbers after.numbers new
NodeGoes old (changing page) (Refused why) new = IsNotPinned old page why new
NodeGoes old (changing page) reply new = ⊥

-- Of a shard only the node changes, and it goes as nodes go. A call that brings a page of another
-- shard, or a visit that does not go there, is refused with `Foreign`, and nothing changes.
abbrev pub ShardStep : ShardState → ShardCall → ShardReply → ShardState → Type 0
ShardStep old call Foreign new = (IsOwn old.count old.number call → ⊥) × (new ≡ old)
ShardStep old call reply new = IsOwn old.count old.number call
    × (new ≡ record old { node = new.node })
    × NodeGoes old.node (asked_of call) reply new.node

-- the result of a node that was asked to answer this call: its reply is one of a node, or it
-- refused
abbrev pub AnsweredAs : NodeState → ShardCall → Result ShardReply NodeFault → NodeState → Type 0
AnsweredAs old call (Ok reply) new = NodeGoes old (asked_of call) reply new
AnsweredAs old call (Err why) new = NodeGoes old (asked_of call) (Refused why) new

-- a node could give this reply to the call, if all its pages are of this shard
abbrev pub MayAnswer : ℕ → ℕ → ShardCall → ShardReply → Type 0
MayAnswer count i call reply = IsOwn count i call
    → (x : NodeState) × (y : NodeState) × NodeGoes x (asked_of call) reply y

-- a call of own pages that has no result: a node answers it `Done`, or refuses it
abbrev pub IsDoneCall : ℕ → ℕ → ShardCall → Type 0
IsDoneCall count i (Write slot at bytes) = Unit {0}
IsDoneCall count i WritePages = Unit {0}
IsDoneCall count i WriteBack = Unit {0}
IsDoneCall count i (FlushDevice dev) = Unit {0}
IsDoneCall count i (ForgetPages dev from) = Unit {0}
IsDoneCall count i call = ⊥

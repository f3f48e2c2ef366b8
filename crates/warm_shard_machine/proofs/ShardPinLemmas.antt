-- What calls of a shard do to the pins of its pool.
use Rattle.std.proofs.Common.{◌≡◌, ℕ, ◌+◌, List, [], ◌∷◌, map, Option, Some, None, refl, sym, ap, subst, arith}
use Rattle.std.proofs.lemmas.List.Sums.{sum_by-cons}
use Rattle.warm_stamps.specs.declared.PageId.{PageId}
use Rattle.warm_pool.specs.declared.fault.PoolFault.TheVariants.{SizeDiffers}
use Rattle.warm_frame_table.specs.Frames.{FrameState}
use Rattle.warm_pool.specs.Outcomes.{WritePageFails}
use Rattle.warm_pool.specs.State.{PoolState}
use Rattle.warm_pool.specs.View.{PoolView, frame_view, view_of}
use Rattle.warm_gossip.specs.declared.call.Call.{Call}
use Rattle.warm_gossip.specs.declared.call.Call.TheVariants as node_call
use Rattle.warm_gossip.specs.declared.call.Reply.{Reply}
use Rattle.warm_gossip.specs.declared.call.Reply.TheVariants as node_reply
use Rattle.warm_gossip.specs.declared.fault.NodeFault.{NodeFault}
use Rattle.warm_gossip.specs.declared.fault.NodeFault.TheVariants.{Memory, Pool, StaleSlot}
use Rattle.warm_gossip.specs.Clauses.{NodeWriteBackFails, OfPool, SameView}
use Rattle.warm_gossip.specs.State.{NodeState, NodeView, node_view}
use Rattle.warm_machine.specs.Runs.{Runs}
use Rattle.warm_shard_machine.specs.declared.calls.ShardCall.{ShardCall}
use Rattle.warm_shard_machine.specs.declared.calls.ShardCall.TheVariants.{Change, Enter, FlushDevice, ForgetPages, Look, Pin, PinFilled, PinZeroed, Raise, Read, Retire, Send, SendSince, Unpin, Victim, WarmList, WarmNext, WarmStep, Write, WriteBack, WritePage, WritePages, WriteSome}
use Rattle.warm_shard_machine.specs.declared.calls.ShardReply.{ShardReply}
use Rattle.warm_shard_machine.specs.declared.calls.ShardReply.TheVariants.{Changed, Dirty, Done, Entered, Foreign, Loaded, Looked, Page, Pinned, Portion, Refused, Replaced, WasDirty}
use Rattle.warm_shard_machine.specs.Laws.{Log}
use Rattle.warm_shard_machine.specs.Pins.{LeadsTo, PinsAreGiven, pin_by, pool_pins, unpin_by}
use Rattle.warm_shard_machine.specs.ShardSteps.{CallGoes, NodeGoes, ShardState, ShardStep, asked_of, node_reply_of}
use Rattle.warm_shard_machine.proofs.EnteringLemmas.{entered_pool}
use Rattle.warm_shard_machine.proofs.ShardStepLemmas.{goes_as, unforgotten}
use Rattle.warm_shards.proofs.EngineCalls.{unflushed_frames, unretired_frames}
use Rattle.warm_shard_machine.proofs.PoolPinLemmas.{IsCalm, IsFree, Moves, calm_same, forgotten_moves, pin_moves, pool_free, refused_same, retired_moves, same_moves, then_same, unpin_moves, warm_moves, zeroed_moves}

-- the pins of a node's pool changed so
abbrev NodeMoves : ℕ → ℕ → NodeState → NodeState → Type 0
NodeMoves given removed n m = Moves given removed (view_of n.pool) (view_of m.pool)

-- a caller sees the same frames
abbrev SeesSame : NodeState → NodeState → Type 0
SeesSame n m = (view_of m.pool).frames ≡ (view_of n.pool).frames

stays : (n m : NodeState) → IsFree (view_of n.pool) → SeesSame n m → NodeMoves 0 0 n m
stays n m free same = same_moves (view_of n.pool) (view_of m.pool) same free

-- nothing has changed; or nothing that a caller sees
unmoved : (n m : NodeState) → m ≡ n → SeesSame n m
unmoved n m same = ap (λ (x : NodeState). (view_of x.pool).frames) same

unseen : (n m : NodeState) → SameView n m → SeesSame n m
unseen n m same = ap (λ (v : NodeView). v.pool.frames) same

fails : (n m : NodeState) (why : NodeFault) → NodeWriteBackFails n why m → SeesSame n m
fails n m why failed = ap (λ (v : PoolView). v.frames) failed.1.1.1.becomes

-- the write of a page failed, or the flush of a device
unwritten : (s t : PoolState) (p : PageId) (why : NodeFault)
    → OfPool (λ fault. WritePageFails p s fault t) why → (view_of t).frames ≡ (view_of s).frames
unwritten s t p (Pool why) failed = ap (λ (fs : List FrameState). map frame_view fs) failed.cause.1.frames
unwritten s t p Memory failed = absurd failed
unwritten s t p StaleSlot failed = absurd failed

-- a call that does nothing with pins
calm : (n m : NodeState) (call : Call) (k : Option Reply) → IsCalm call → IsFree (view_of n.pool)
    → CallGoes n call k m → NodeMoves 0 0 n m
calm n m call None is free step = absurd step
calm n m call (Some reply) is free step =
    stays n m free (calm_same (node_view n) (node_view m) call reply is step.0)

-- a pin that is refused
unpinned_page : (n m : NodeState) (p : PageId) (why : NodeFault) → IsFree (view_of n.pool)
    → CallGoes n (node_call.Pin p) (Some (node_reply.Refused why)) m → NodeMoves 0 0 n m
unpinned_page n m p why free step =
    stays n m free (refused_same (node_view n) (node_view m) (node_call.Pin p) why step.0)

-- what the node does for a call
goes_moves : (n m : NodeState) (c : ShardCall) (r : ShardReply) → IsFree (view_of n.pool)
    → NodeGoes n (asked_of c) r m → NodeMoves (pin_by c r) (unpin_by c r) n m
goes_moves n m (Raise time) r free step = calm n m (node_call.Horizon time) (node_reply_of r) tt free step
goes_moves n m (Read slot at len) r free step = calm n m (node_call.Read slot at len) (node_reply_of r) tt free step
goes_moves n m (Write slot at bytes) r free step = calm n m (node_call.Write slot at bytes) (node_reply_of r) tt free step
goes_moves n m Victim r free step = calm n m node_call.Victim (node_reply_of r) tt free step
goes_moves n m (WarmList limit) r free step = calm n m (node_call.WarmList limit) (node_reply_of r) tt free step
goes_moves n m (Send bucket after) r free step = calm n m (node_call.Send bucket after) (node_reply_of r) tt free step
goes_moves n m (Pin p) (Pinned slot) free step = pin_moves (node_view n) (node_view m) p slot step.0 free
goes_moves n m (Pin p) (Refused why) free step = unpinned_page n m p why free step
goes_moves n m (Pin p) r free step = absurd (goes_as n m (node_call.Pin p) (node_reply_of r) step)
goes_moves n m (Unpin slot) Done free step = unpin_moves (node_view n) (node_view m) slot step.0 free
goes_moves n m (Unpin slot) (Refused why) free step =
    stays n m free (refused_same (node_view n) (node_view m) (node_call.Unpin slot) why step.0)
goes_moves n m (Unpin slot) r free step = absurd (goes_as n m (node_call.Unpin slot) (node_reply_of r) step)
goes_moves n m WarmStep (Loaded page) free step = warm_moves (node_view n) (node_view m) page step.0 free
goes_moves n m WarmStep (Refused why) free step =
    stays n m free (refused_same (node_view n) (node_view m) node_call.WarmStep why step.0)
goes_moves n m WarmStep r free step = absurd (goes_as n m node_call.WarmStep (node_reply_of r) step)
goes_moves n m (PinZeroed p) (Pinned slot) free step =
    zeroed_moves n.history (view_of n.pool) (view_of m.pool) p slot step.1 free
goes_moves n m (PinZeroed p) (Refused why) free step =
    stays n m free (ap (λ (fs : List FrameState). map frame_view fs) step.1)
goes_moves n m (PinZeroed p) r free step = absurd step
goes_moves n m (PinFilled p bytes) (Pinned slot) free step = pin_moves (node_view n) (node_view m) p slot step.1 free
goes_moves n m (PinFilled p bytes) (Refused (Pool SizeDiffers)) free step = stays n m free (unmoved n m step.1)
goes_moves n m (PinFilled p bytes) (Refused (Pool fault)) free step =
    stays n m free (refused_same (node_view n) (node_view m) (node_call.Pin p) (Pool fault) step.1)
goes_moves n m (PinFilled p bytes) (Refused Memory) free step = stays n m free (unmoved n m step)
goes_moves n m (PinFilled p bytes) r free step = absurd step
goes_moves n m WarmNext (Page page) free step = stays n m free (unmoved n m step.1)
goes_moves n m WarmNext (Refused why) free step = stays n m free (unmoved n m step.1)
goes_moves n m WarmNext r free step = absurd step
goes_moves n m (SendSince bucket since after) (Portion message more) free step = stays n m free (unmoved n m step.2)
goes_moves n m (SendSince bucket since after) (Refused why) free step = stays n m free (unmoved n m step.1)
goes_moves n m (SendSince bucket since after) r free step = absurd step
goes_moves n m WritePages Done free step = stays n m free (unseen n m step.0)
goes_moves n m WritePages (Refused why) free step = stays n m free (fails n m why step.0)
goes_moves n m WritePages r free step = absurd step
goes_moves n m (WriteSome limit) (Dirty left) free step = stays n m free (unseen n m step.0)
goes_moves n m (WriteSome limit) (Refused why) free step = stays n m free (fails n m why step.0)
goes_moves n m (WriteSome limit) r free step = absurd step
goes_moves n m (WritePage p) (WasDirty was_dirty) free step =
    stays n m free (ap (λ (v : PoolView). v.frames) step.1.same)
goes_moves n m (WritePage p) (Refused why) free step = stays n m free (unwritten n.pool m.pool p why step.1)
goes_moves n m (WritePage p) r free step = absurd step
goes_moves n m (FlushDevice dev) Done free step = stays n m free (ap (λ (v : PoolView). v.frames) step.1.same)
goes_moves n m (FlushDevice dev) (Refused (Pool fault)) free step =
    stays n m free (unflushed_frames n.pool m.pool dev fault step.1.cause)
goes_moves n m (FlushDevice dev) (Refused why) free step = absurd step.1
goes_moves n m (FlushDevice dev) r free step = absurd step
goes_moves n m WriteBack Done free step = stays n m free (unseen n m step.0)
goes_moves n m WriteBack (Refused why) free step = stays n m free (fails n m why step.0)
goes_moves n m WriteBack r free step = absurd step
goes_moves n m (ForgetPages dev from) Done free step = forgotten_moves n.pool m.pool dev from step.1 free
goes_moves n m (ForgetPages dev from) (Refused why) free step =
    stays n m free (ap (λ (s : PoolState). (view_of s).frames) (unforgotten n.pool m.pool dev from why step.1))
goes_moves n m (ForgetPages dev from) r free step = absurd step
goes_moves n m (Retire dev told) (Replaced given) free step =
    retired_moves (view_of n.pool) (view_of m.pool) dev step.0 step.5.retires.retired free
goes_moves n m (Retire dev told) (Refused (Pool fault)) free step =
    stays n m free (unretired_frames (view_of n.pool) (view_of m.pool) dev step.0 fault step.3.cause)
goes_moves n m (Retire dev told) (Refused Memory) free step = stays n m free (unmoved n m step)
goes_moves n m (Retire dev told) r free step = absurd step
goes_moves n m (Enter count number v) (Entered w) free step =
    stays n m free (ap (λ (x : PoolView). x.frames) (entered_pool n m v w step.1))
goes_moves n m (Enter count number v) (Refused why) free step = stays n m free (unmoved n m step.1)
goes_moves n m (Enter count number v) r free step = absurd step
-- a look pins and unpins
goes_moves n m (Look p) (Looked slot bytes) free step =
    let pinned = pin_moves (node_view n) (node_view step.mid) p slot step.pins.0 free in
    let back = unpin_moves (node_view step.mid) (node_view m) slot step.unpins.0 pinned.free in
    record { count = omega (arith, pinned.count, back.count); free = back.free }
goes_moves n m (Look p) (Refused why) free step = unpinned_page n m p why free step
goes_moves n m (Look p) r free step = absurd step
goes_moves n m (Change p) (Changed slot before after) free step =
    let pinned = pin_moves (node_view n) (node_view step.mid) p slot step.pins.0 free in
    let written = calm_same (node_view step.mid) (node_view step.left) (node_call.Write slot 0 after.numbers) node_reply.Done tt step.writes.0 in
    let held = then_same 1 0 (view_of n.pool) (view_of step.mid.pool) (view_of step.left.pool) pinned written in
    let back = unpin_moves (node_view step.left) (node_view m) slot step.unpins.0 held.free in
    record { count = omega (arith, held.count, back.count); free = back.free }
goes_moves n m (Change p) (Refused why) free step = unpinned_page n m p why free step
goes_moves n m (Change p) r free step = absurd step

-- a call of a page of another shard gives and removes none, and neither does one that is refused
pin_none : (c : ShardCall) → pin_by c Foreign ≡ 0
pin_none (Pin p) = refl
pin_none (PinZeroed p) = refl
pin_none (PinFilled p bytes) = refl
pin_none c = refl

unpin_none : (c : ShardCall) → unpin_by c Foreign ≡ 0
unpin_none (Unpin slot) = refl
unpin_none c = refl

pub pin_refused : (c : ShardCall) (why : NodeFault) → pin_by c (Refused why) ≡ 0
pin_refused (Pin p) why = refl
pin_refused (PinZeroed p) why = refl
pin_refused (PinFilled p bytes) why = refl
pin_refused c why = refl

pub unpin_refused : (c : ShardCall) (why : NodeFault) → unpin_by c (Refused why) ≡ 0
unpin_refused (Unpin slot) why = refl
unpin_refused c why = refl

foreign_moves : (n m : NodeState) (c : ShardCall) → IsFree (view_of n.pool) → m ≡ n
    → NodeMoves (pin_by c Foreign) (unpin_by c Foreign) n m
foreign_moves n m c free same =
    let none : NodeMoves 0 0 n m = stays n m free (unmoved n m same) in
    subst (λ k. NodeMoves k (unpin_by c Foreign) n m) (sym (pin_none c)) (subst (λ k. NodeMoves 0 k n m) (sym (unpin_none c)) none)

shard_moves : (o y : ShardState) (c : ShardCall) (r : ShardReply) → IsFree (view_of o.node.pool)
    → ShardStep o c r y → NodeMoves (pin_by c r) (unpin_by c r) o.node y.node
shard_moves o y c Foreign free step = foreign_moves o.node y.node c free (ap (λ (s : ShardState). s.node) step.1)
shard_moves o y c r free step = goes_moves o.node y.node c r free step.2

-- if no frame without a page is pinned
pub run_moves : (o z : ShardState) (log : Log) → IsFree (view_of o.node.pool)
    → Runs ShardStep o log z → LeadsTo (pool_pins o.node) log (pool_pins z.node)
run_moves o z [] free runs = ap (λ (s : ShardState). pool_pins s.node + 0) (sym runs)
run_moves o z (e ∷ es) free runs =
    let one = shard_moves o runs.0 e.call e.reply free runs.1 in
    let rest = run_moves runs.0 z es one.free runs.2 in
    let given = sum_by-cons (λ x. pin_by x.call x.reply) e es in
    let removed = sum_by-cons (λ x. unpin_by x.call x.reply) e es in
    omega (arith, one.count, rest, given, removed)

pub pins_are_given : PinsAreGiven
pins_are_given o z log pool runs = run_moves o z log (pool_free o.node.pool pool) runs

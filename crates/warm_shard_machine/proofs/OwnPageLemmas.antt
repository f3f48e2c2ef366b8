-- A shard holds its own pages alone, after any call.
use Rattle.std.proofs.Common.{◌≡◌, ℕ, List, [], ◌∷◌, map, Option, Some, None, Ok, Err, sym, ap, subst}
use Rattle.std.specs.List.{AllByRecursion}
use Rattle.warm_stamps.specs.declared.PageId.{PageId}
use Rattle.warm_history.specs.Histories.{HistoryView, entries_of}
use Rattle.warm_pool.specs.declared.fault.PoolFault.TheVariants.{SizeDiffers}
use Rattle.warm_frame_table.specs.Frames.{FrameState}
use Rattle.warm_pool.specs.Outcomes.{FlushDeviceFails, SettlesDevice, WritePageFails, WritesPageBack}
use Rattle.warm_pool.specs.State.{PoolState}
use Rattle.warm_pool.specs.View.{frame_view, view_of}
use Rattle.warm_machine.specs.declared.operation.Operation.{Operation}
use Rattle.warm_machine.specs.Runs.{Runs}
use Rattle.warm_gossip.specs.declared.call.Call.{Call}
use Rattle.warm_gossip.specs.declared.call.Reply.{Reply}
use Rattle.warm_gossip.specs.declared.call.Call.TheVariants as node_call
use Rattle.warm_gossip.specs.declared.call.Reply.TheVariants as node_reply
use Rattle.warm_gossip.specs.declared.fault.NodeFault.{NodeFault}
use Rattle.warm_gossip.specs.declared.fault.NodeFault.TheVariants.{Memory, Pool}
use Rattle.warm_gossip.specs.Clauses.{NodeWriteBackFails, SameView}
use Rattle.warm_gossip.specs.Engine.{AsksPool, KeepsKnown}
use Rattle.warm_gossip.specs.State.{NodeState, node_view}
use Rattle.warm_shards.specs.Laws.{BringsOwn}
use Rattle.warm_shards.specs.Shards.{HasPagesOf, HoldsPagesOf, HoldsShard}
use Rattle.warm_visits.specs.ShardNumbers.{shard_of}
use Rattle.warm_shards.proofs.Calls.{frames_own}
use Rattle.warm_shards.proofs.EngineCalls.{SameFrames, flushed_frames, forgotten_own, page_frames, retired_own, unretired_frames, zeroed_own}
use Rattle.warm_shards.proofs.HoldsPagesLemmas.{failures_stay, steps_stay}
use Rattle.warm_shard_machine.specs.declared.calls.ShardCall.{ShardCall}
use Rattle.warm_shard_machine.specs.declared.calls.ShardCall.TheVariants.{Change, Enter, Look, Pin, PinFilled, PinZeroed}
use Rattle.warm_shard_machine.specs.declared.calls.ShardReply.{ShardReply}
use Rattle.warm_shard_machine.specs.declared.calls.ShardReply.TheVariants.{Changed, Dirty, Done, Entered, Foreign, Looked, Page, Pinned, Portion, Refused, Replaced, WasDirty}
use Rattle.warm_shard_machine.specs.ShardSteps.{Asked, doing, looking, changing, CallGoes, CallStep, IsOwn, NodeGoes, NodeStep, ShardState, ShardStep, Work, calling, writing_pages, writing_some, writing_page, writing_back, flushing, zeroing, filling, naming_next, forgetting, sending_since, retiring, entering, asked_of, node_reply_of}
use Rattle.warm_shard_machine.specs.Entering.{IsNextAt}
use Rattle.warm_shard_machine.proofs.EnteringLemmas.{entered_own}
use Rattle.warm_shard_machine.proofs.ShardStepLemmas.{runs_keep, unforgotten}

-- ---- a node after one step

module _ (count i : ℕ) where
  abbrev IsHere : PageId → Type 0
  IsHere p = shard_of count p ≡ i

  -- a call
  call_own : (n m : NodeState) (c : Call) (r : Reply) → BringsOwn count i c → HoldsShard count i n
      → CallStep n c r m → HoldsShard count i m
  call_own n m c r brings own step = steps_stay count i (node_view n) (node_view m) c r brings own step.0

  goes_call : (n m : NodeState) (c : Call) (k : Option Reply) → BringsOwn count i c
      → HoldsShard count i n → CallGoes n c k m → HoldsShard count i m
  goes_call n m c None brings own step = absurd step
  goes_call n m c (Some r) brings own step = call_own n m c r brings own step

  -- a caller sees what it saw; or a device failed
  same_stays : (n m : NodeState) → HoldsShard count i n → SameView n m → HoldsShard count i m
  same_stays n m own same = subst (HoldsPagesOf count i) (sym same) own

  fails_stays : (n m : NodeState) (why : NodeFault) → HoldsShard count i n
      → NodeWriteBackFails n why m → HoldsShard count i m
  fails_stays n m why own fails = failures_stay count i (node_view n) (node_view m) fails.1 own

  -- the pool alone has changed, and has pages of this shard alone
  pool_own : (n m : NodeState) → HoldsShard count i n → KeepsKnown n m
      → HasPagesOf count i (view_of m.pool) → HoldsShard count i m
  pool_own n m own known pages = record {
    known = subst (λ (h : HistoryView). AllByRecursion (λ e. shard_of count e.page ≡ i) (entries_of h)) (sym known.history) own.known;
    resident = pages;
  }

  -- the frames that a caller sees are unchanged
  same_frames : (n m : NodeState) → HoldsShard count i n → KeepsKnown n m → SameFrames n.pool m.pool
      → HoldsShard count i m
  same_frames n m own known same = pool_own n m own known (frames_own count i (view_of n.pool) (view_of m.pool) same own.resident)

  abbrev BringsWork : Work → Type 0
  BringsWork (calling c) = BringsOwn count i c
  BringsWork (zeroing p) = IsHere p
  BringsWork (filling p bytes) = IsHere p
  BringsWork (entering all next v) = (all ≡ count) × (next ≡ i)
  BringsWork w = Unit {0}

  step_own : (n m : NodeState) (w : Work) (r : ShardReply) → BringsWork w → HoldsShard count i n
      → NodeStep n w r m → HoldsShard count i m
  step_own n m (calling c) r brings own step = goes_call n m c (node_reply_of r) brings own step
  step_own n m writing_pages Done brings own step = same_stays n m own step.0
  step_own n m writing_pages (Refused why) brings own step = fails_stays n m why own step.0
  step_own n m writing_pages r brings own step = absurd step
  step_own n m (writing_some limit) (Dirty left) brings own step = same_stays n m own step.0
  step_own n m (writing_some limit) (Refused why) brings own step = fails_stays n m why own step.0
  step_own n m (writing_some limit) r brings own step = absurd step
  step_own n m (writing_page p) (WasDirty was_dirty) brings own step =
      let asked : AsksPool (WritesPageBack p) (WritePageFails p) n (Ok was_dirty) m = record { known = step.0; done = step.1; refused = tt } in
      same_frames n m own step.0 (page_frames p n m (Ok was_dirty) asked)
  step_own n m (writing_page p) (Refused why) brings own step =
      let asked : AsksPool (WritesPageBack p) (WritePageFails p) n (Err why) m = record { known = step.0; done = tt; refused = step.1 } in
      same_frames n m own step.0 (page_frames p n m (Err why) asked)
  step_own n m (writing_page p) r brings own step = absurd step
  step_own n m (flushing dev) Done brings own step =
      let asked : AsksPool {T = Unit} (λ s given. SettlesDevice dev s) (FlushDeviceFails dev) n (Ok tt) m = record { known = step.0; done = step.1; refused = tt } in
      same_frames n m own step.0 (flushed_frames dev n m (Ok tt) asked)
  step_own n m (flushing dev) (Refused why) brings own step =
      let asked : AsksPool {T = Unit} (λ s given. SettlesDevice dev s) (FlushDeviceFails dev) n (Err why) m = record { known = step.0; done = tt; refused = step.1 } in
      same_frames n m own step.0 (flushed_frames dev n m (Err why) asked)
  step_own n m (flushing dev) r brings own step = absurd step
  step_own n m writing_back Done brings own step = same_stays n m own step.0
  step_own n m writing_back (Refused why) brings own step = fails_stays n m why own step.0
  step_own n m writing_back r brings own step = absurd step
  step_own n m (zeroing p) (Pinned slot) brings own step =
      pool_own n m own step.0 (zeroed_own count i n.history (view_of n.pool) (view_of m.pool) p slot brings step.1 own.resident)
  step_own n m (zeroing p) (Refused why) brings own step =
      same_frames n m own step.0 (ap (λ (fs : List FrameState). map frame_view fs) step.1)
  step_own n m (zeroing p) r brings own step = absurd step
  step_own n m (filling p bytes) (Pinned slot) brings own step =
      steps_stay count i (node_view n) (node_view m) (node_call.Pin p) (node_reply.Pinned slot) brings own step.1
  step_own n m (filling p bytes) (Refused (Pool SizeDiffers)) brings own step = subst (HoldsShard count i) (sym step.1) own
  step_own n m (filling p bytes) (Refused (Pool fault)) brings own step =
      steps_stay count i (node_view n) (node_view m) (node_call.Pin p) (node_reply.Refused (Pool fault)) brings own step.1
  step_own n m (filling p bytes) (Refused Memory) brings own step = subst (HoldsShard count i) (sym step) own
  step_own n m (filling p bytes) r brings own step = absurd step
  step_own n m naming_next (Page next) brings own step = subst (HoldsShard count i) (sym step.1) own
  step_own n m naming_next (Refused why) brings own step = subst (HoldsShard count i) (sym step.1) own
  step_own n m naming_next r brings own step = absurd step
  step_own n m (forgetting dev from) Done brings own step =
      pool_own n m own step.0 (forgotten_own count i n.pool m.pool dev from step.1 own.resident)
  step_own n m (forgetting dev from) (Refused why) brings own step =
      let same = unforgotten n.pool m.pool dev from why step.1 in
      pool_own n m own step.0 (subst (λ (s : PoolState). HasPagesOf count i (view_of s)) (sym same) own.resident)
  step_own n m (forgetting dev from) r brings own step = absurd step
  step_own n m (sending_since bucket since after) (Portion message more) brings own step = subst (HoldsShard count i) (sym step.2) own
  step_own n m (sending_since bucket since after) (Refused why) brings own step = subst (HoldsShard count i) (sym step.1) own
  step_own n m (sending_since bucket since after) r brings own step = absurd step
  step_own n m (retiring dev told) (Replaced given) brings own step =
      pool_own n m own step.4 (retired_own count i (view_of n.pool) (view_of m.pool) dev step.0 step.5.retires.retired own.resident)
  step_own n m (retiring dev told) (Refused (Pool fault)) brings own step =
      same_frames n m own step.2 (unretired_frames (view_of n.pool) (view_of m.pool) dev step.0 fault step.3.cause)
  step_own n m (retiring dev told) (Refused Memory) brings own step = subst (HoldsShard count i) (sym step) own
  step_own n m (retiring dev told) r brings own step = absurd step
  step_own n m (entering all next v) (Entered w) brings own step =
      let at : IsNextAt count i v = subst (λ j. IsNextAt count j v) brings.1 (subst (λ k. IsNextAt k next v) brings.0 step.0) in
      entered_own count i n m own v w at step.1
  step_own n m (entering all next v) (Refused why) brings own step = subst (HoldsShard count i) (sym step.1) own
  step_own n m (entering all next v) r brings own step = absurd step

  -- so does all that a shard asks of its node for a call of own pages
  abbrev BringsAsked : Asked → Type 0
  BringsAsked (doing w) = BringsWork w
  BringsAsked (looking p) = IsHere p
  BringsAsked (changing p) = IsHere p

  own_asked : (c : ShardCall) → IsOwn count i c → BringsAsked (asked_of c)
  own_asked (Pin p) own = own
  own_asked (PinZeroed p) own = own
  own_asked (PinFilled p bytes) own = own
  own_asked (Look p) own = own
  own_asked (Change p) own = own
  own_asked (Enter all next v) own = own
  own_asked c own = tt

  goes_own : (n m : NodeState) (a : Asked) (r : ShardReply) → BringsAsked a → HoldsShard count i n
      → NodeGoes n a r m → HoldsShard count i m
  goes_own n m (doing w) r brings own step = step_own n m w r brings own step
  goes_own n m (looking p) (Looked slot bytes) brings own step =
      let pinned = call_own n step.mid (node_call.Pin p) (node_reply.Pinned slot) brings own step.pins in
      call_own step.mid m (node_call.Unpin slot) node_reply.Done tt pinned step.unpins
  goes_own n m (looking p) (Refused why) brings own step = call_own n m (node_call.Pin p) (node_reply.Refused why) brings own step
  goes_own n m (looking p) r brings own step = absurd step
  goes_own n m (changing p) (Changed slot before after) brings own step =
      let pinned = call_own n step.mid (node_call.Pin p) (node_reply.Pinned slot) brings own step.pins in
      let written = call_own step.mid step.left (node_call.Write slot 0 after.numbers) node_reply.Done tt pinned step.writes in
      call_own step.left m (node_call.Unpin slot) node_reply.Done tt written step.unpins
  goes_own n m (changing p) (Refused why) brings own step = call_own n m (node_call.Pin p) (node_reply.Refused why) brings own step
  goes_own n m (changing p) r brings own step = absurd step

-- ---- a shard after a run

-- a shard holds its own pages alone
abbrev pub HoldsOwn : ShardState → Type 0
HoldsOwn s = HoldsShard s.count s.number s.node

shard_step_own : (o y : ShardState) (c : ShardCall) (r : ShardReply) → HoldsOwn o → ShardStep o c r y
    → HoldsOwn y
shard_step_own o y c Foreign own step = subst HoldsOwn (sym step.1) own
shard_step_own o y c r own step =
    subst HoldsOwn (sym step.1) (goes_own o.count o.number o.node y.node (asked_of c) r (own_asked o.count o.number c step.0) own step.2)

runs_own : (o z : ShardState) (es : List (Operation ShardCall ShardReply)) → HoldsOwn o
    → Runs ShardStep o es z → HoldsOwn z
runs_own o z [] own runs = subst HoldsOwn runs own
runs_own o z (e ∷ es) own runs =
    runs_own runs.0 z es (shard_step_own o runs.0 e.call e.reply own runs.1) runs.2

-- so does its node after any legal list of calls
pub run_holds : (o z : ShardState) (es : List (Operation ShardCall ShardReply)) → HoldsOwn o
    → Runs ShardStep o es z → HoldsShard o.count o.number z.node
run_holds o z es own runs =
    let same = runs_keep o z es runs in
    subst (λ n. HoldsShard o.count n z.node) same.1 (subst (λ c. HoldsShard c z.number z.node) same.0 (runs_own o z es own runs))

-- What an engine asks of a shard beside the calls leaves it the shard that it was.
use Rattle.std.proofs.Common.{◌≡◌, inl, inr, ℕ, zero, suc, Bool, true, false, List, [], ◌∷◌, map, get_or, Some, None, Result, Ok, Err, refl, sym, ap, subst, ◌∙◌}
use Rattle.std.specs.Prelude.{IfErr, OnOk, if◌then◌else◌}
use Rattle.std.proofs.Math.ListN.{get_or-map as mapped}
use Rattle.warm_stamps.specs.declared.PageId.{PageId}
use Rattle.warm_history.specs.Histories.{HistoryView}
use Rattle.warm_devices.specs.Device.{DeviceState}
use Rattle.warm_frame_table.specs.Frames.{FrameState}
use Rattle.warm_frame_table.specs.FrameSteps.{vacated}
use Rattle.warm_frame_table.specs.Selection.{is_from, is_on}
use Rattle.warm_pool.specs.declared.fault.PoolFault.{PoolFault}
use Rattle.warm_pool.specs.declared.fault.PoolFault.TheVariants.{SizeDiffers, NoDevice, Fixed, Fault}
use Rattle.warm_pool.specs.declared.slot.Slot.{Slot}
use Rattle.warm_pool.specs.Forgetting.{Forgets}
use Rattle.warm_pool.specs.Outcomes.{FlushDeviceFails, SettlesDevice, UnreadPinFails, WritePageFails, WriteSomeFails, WritesPageBack, WritesSomeBack}
use Rattle.warm_pool.specs.Outcomes.{ZeroesPage}
use Rattle.warm_pool.specs.Retiring.{RetireRefused, Retired, emptied}
use Rattle.warm_pool.specs.State.{PoolState}
use Rattle.warm_pool.specs.View.{FrameView, PoolView, frame_at, frame_view, view_of}
use Rattle.warm_pool.specs.WritingSome.{FlushRefused}
use Rattle.warm_pool.specs.Zeroing.{PinnedZeroed}
use Rattle.warm_gossip.specs.declared.fault.NodeFault.{NodeFault}
use Rattle.warm_gossip.specs.Brings.{BringsOnly}
use Rattle.warm_gossip.specs.Engine.{AsksPool, KeepsKnown}
use Rattle.warm_gossip.specs.State.{NodeState}
use Rattle.warm_gossip.proofs.BringsLemmas.{kept_brings, put_brings}
use Rattle.warm_gossip.proofs.EngineLemmas.{either_asked}
use Rattle.warm_gossip.proofs.VictimLemmas.{fixes_change, no_frame}
use Rattle.warm_shards.specs.Shards.{HasPagesOf, IsShard}
use Rattle.warm_visits.specs.ShardNumbers.{shard_of}
use Rattle.warm_shards.proofs.Calls.{all_brought, frames_own, known_shard}

-- the frames that a caller sees are unchanged
abbrev pub SameFrames : PoolState → PoolState → Type 0
SameFrames s t = (view_of t).frames ≡ (view_of s).frames

pub frames_shard : (count number latest i : ℕ) (n m : NodeState) → KeepsKnown n m
    → SameFrames n.pool m.pool → IsShard count number latest i n → IsShard count number latest i m
frames_shard count number latest i n m known same old =
    known_shard count number latest i n m old known (frames_own count i (view_of n.pool) (view_of m.pool) same old.own.resident)

-- ---- zeros

-- a pin that reads no page brings that page
zeroed_brings : (h : HistoryView) (v w : PoolView) (p : PageId) (slot : Slot)
    → PinnedZeroed h v p slot w → BringsOnly (λ q. q ≡ p) v w
zeroed_brings h v w p slot pinned = elim pinned.1 [
  | inl fixes ↦ kept_brings (λ q. q ≡ p) v w (λ k.
      ap (λ fs. let f : FrameView = get_or fs k no_frame in f.page) (ap (λ (x : PoolView). x.frames) fixes.written.becomes)
      ∙ fixes_change v fixes.between slot.index _ fixes.adds.there (ap (λ (x : PoolView). x.frames) fixes.adds.becomes) k)
  | inr puts ↦ put_brings (λ q. q ≡ p) v w p slot.index _ (elim puts.to_load [ inl free ↦ free.there | inr victim ↦ victim.there ]) refl (ap (λ (x : PoolView). x.frames) puts.becomes) refl
]

pub zeroed_own : (count i : ℕ) (h : HistoryView) (v w : PoolView) (p : PageId) (slot : Slot)
    → shard_of count p ≡ i → PinnedZeroed h v p slot w → HasPagesOf count i v → HasPagesOf count i w
zeroed_own count i h v w p slot is pinned =
    all_brought count i (λ q. q ≡ p) v w (zeroed_brings h v w p slot pinned) (λ q same. subst (λ x. shard_of count x ≡ i) (sym same) is)

pub asked_zeros_shard : (count number latest i : ℕ) (n m : NodeState) (p : PageId)
    (result : Result Slot NodeFault) → shard_of count p ≡ i
    → AsksPool (ZeroesPage n.history p) (UnreadPinFails n.history p) n result m
    → IsShard count number latest i n → IsShard count number latest i m
asked_zeros_shard count number latest i n m p result is asked old =
    known_shard count number latest i n m old asked.known
    (either_asked (ZeroesPage n.history p) (UnreadPinFails n.history p) n result m asked
    (λ slot done. zeroed_own count i n.history (view_of n.pool) (view_of m.pool) p slot is done.pinned old.own.resident)
    (λ why fails. frames_own count i (view_of n.pool) (view_of m.pool) (ap (λ (x : PoolView). x.frames) fails.stays) old.own.resident))

-- ---- writing back

pub some_frames : (limit : ℕ) (n m : NodeState) (result : Result ℕ NodeFault)
    → AsksPool (WritesSomeBack limit) (WriteSomeFails limit) n result m → SameFrames n.pool m.pool
some_frames limit n m result asked =
    either_asked (WritesSomeBack limit) (WriteSomeFails limit) n result m asked (λ left done. ap (λ (x : PoolView). x.frames) done.same) (λ why fails. ap (λ (x : PoolView). x.frames) fails.cause.1.fails.becomes)

pub page_frames : (page : PageId) (n m : NodeState) (result : Result Bool NodeFault)
    → AsksPool (WritesPageBack page) (WritePageFails page) n result m → SameFrames n.pool m.pool
page_frames page n m result asked =
    either_asked (WritesPageBack page) (WritePageFails page) n result m asked (λ was_dirty done. ap (λ (x : PoolView). x.frames) done.same) (λ why fails. ap (λ (x : PoolView). x.frames) fails.cause.1.fails.becomes)

pub unflushed_frames : (s t : PoolState) (dev : ℕ) (why : PoolFault) → FlushRefused s dev why t
    → SameFrames s t
unflushed_frames s t dev NoDevice refused = ap (λ (x : PoolState). (view_of x).frames) refused.1
unflushed_frames s t dev Fault refused = ap (λ (x : PoolView). x.frames) refused.1.becomes
unflushed_frames s t dev why refused = absurd refused

pub flushed_frames : (dev : ℕ) (n m : NodeState) (result : Result Unit NodeFault)
    → AsksPool (λ s _. SettlesDevice dev s) (FlushDeviceFails dev) n result m → SameFrames n.pool m.pool
flushed_frames dev n m result asked =
    either_asked (λ s _. SettlesDevice dev s) (FlushDeviceFails dev) n result m asked (λ given done. ap (λ (x : PoolView). x.frames) done.same) (λ why fails. unflushed_frames n.pool m.pool dev why fails.cause)

-- ---- pages that leave: each frame has its page, or none

emptied_page : (gone : Bool) (f : FrameView) (p : PageId)
    → (if gone then emptied f else f).page ≡ Some p → f.page ≡ Some p
emptied_page true f p at = let no : None ≡ Some p = at in absurd (cc)
emptied_page false f p at = at

pub retired_own : (count i : ℕ) (v w : PoolView) (dev : ℕ) (device : DeviceState)
    → Retired v dev device w → HasPagesOf count i v → HasPagesOf count i w
retired_own count i v w dev device retired own k p at =
    let left : FrameView → FrameView = λ f. if is_on dev f.page then emptied f else f in
    own k p (emptied_page (is_on dev (frame_at v k).page) (frame_at v k) p
    (ap (λ (f : FrameView). f.page) (sym (mapped left v.frames k no_frame)) ∙ ap (λ (x : PoolView). (frame_at x k).page) (sym retired.becomes) ∙ at))

pub unretired_frames : (v w : PoolView) (dev : ℕ) (device : DeviceState) (why : PoolFault)
    → RetireRefused v dev device why w → w.frames ≡ v.frames
unretired_frames v w dev device NoDevice refused = ap (λ (x : PoolView). x.frames) refused.1
unretired_frames v w dev device SizeDiffers refused = ap (λ (x : PoolView). x.frames) refused.2
unretired_frames v w dev device Fixed refused = ap (λ (x : PoolView). x.frames) refused.3
unretired_frames v w dev device Fault refused = ap (λ (x : PoolView). x.frames) refused.1.becomes
unretired_frames v w dev device why refused = absurd refused

pub retired_shard : {T E : Type 0} (count number latest i : ℕ) (n m : NodeState) (dev : ℕ)
    (device : DeviceState) (fault : E → PoolFault) (result : Result T E) → KeepsKnown n m
    → OnOk result (Retired (view_of n.pool) dev device (view_of m.pool))
    → IfErr result (λ e. RetireRefused (view_of n.pool) dev device (fault e) (view_of m.pool))
    → IsShard count number latest i n → IsShard count number latest i m
retired_shard count number latest i n m dev device fault (Ok given) known retired refused old =
    known_shard count number latest i n m old known (retired_own count i (view_of n.pool) (view_of m.pool) dev device retired old.own.resident)
retired_shard count number latest i n m dev device fault (Err e) known retired refused old =
    frames_shard count number latest i n m known (unretired_frames (view_of n.pool) (view_of m.pool) dev device (fault e) refused) old

vacated_page : (gone : FrameState → Bool) (fs : List FrameState) (k : ℕ) (p : PageId)
    → (get_or (map frame_view (map (λ f. if gone f then vacated f else f) fs)) k no_frame).page ≡ Some p
    → (get_or (map frame_view fs) k no_frame).page ≡ Some p
vacated_page gone [] k p at = at
vacated_page gone (f ∷ fs) zero p at = cases (gone f) at
  where
    cases : (g : Bool) → (frame_view (if g then vacated f else f)).page ≡ Some p → f.page ≡ Some p
    cases true none = let no : None ≡ Some p = none in absurd (cc)
    cases false same = same
vacated_page gone (f ∷ fs) (suc k) p at = vacated_page gone fs k p at

pub forgotten_own : (count i : ℕ) (s t : PoolState) (dev from : ℕ) → Forgets s dev from t
    → HasPagesOf count i (view_of s) → HasPagesOf count i (view_of t)
forgotten_own count i s t dev from forgets own k p at =
    own k p (vacated_page (λ f. is_from dev from f.page) s.frames k p (ap (λ (x : PoolState). (frame_at (view_of x) k).page) (sym forgets.becomes) ∙ at))

-- The effect of each call on a node, and its refusals, as a caller sees them.
use Rattle.std.specs.Prelude.{◌≡◌, ℕ, ◌+◌, ◌<◌, ◌≤◌, List, [], length, Option, Some, None}
use Rattle.std.specs.Prelude.{slice_index_or}
use Rattle.warm_stamps.specs.declared.PageId.{PageId}
use Rattle.warm_history.specs.ReferenceSets.{set_of_list, with_horizon, ◌∪◌}
use Rattle.warm_history.specs.Histories.{history_of_entries, history, references_of}
use Rattle.warm_rank.specs.Ranking.{IsVictim, hottest_pages}
use Rattle.warm_pool.specs.declared.fault.PoolFault.TheVariants.{OutOfPage, Fixed, Fault}
use Rattle.warm_pool.specs.declared.slot.Slot.{Slot}
use Rattle.warm_pool.specs.View.{PoolView, HasPage, IsAbsent, Holds, unfixed_pages, IsFixed}
use Rattle.warm_pool.specs.View.{IsUnfixed}
use Rattle.warm_pool.specs.Unchanged.{FailsAt}
use Rattle.warm_pool.specs.Pinning.{Pinned as PinnedIn, PinRefused, PutsIn, PutRefused, unpinned}
use Rattle.warm_pool.specs.PageBytes.{IsRead, Written}
use Rattle.warm_pool.specs.Retiring.{Emptied}
use Rattle.warm_gossip.specs.declared.call.Call.{Call}
use Rattle.warm_gossip.specs.declared.call.Call.TheVariants.{Absorb, Send, Offer, Receive, Horizon}
use Rattle.warm_gossip.specs.declared.call.Call.TheVariants.{Pin, Unpin, Read, Write, Victim}
use Rattle.warm_gossip.specs.declared.call.Call.TheVariants.{WarmList, WarmStep, Restart}
use Rattle.warm_gossip.specs.declared.call.Reply.{Reply}
use Rattle.warm_gossip.specs.declared.call.Reply.TheVariants.{Done, Sent, Answers, Kept, Pinned}
use Rattle.warm_gossip.specs.declared.call.Reply.TheVariants.{Bytes, Page, Pages, Loaded, Refused}
use Rattle.warm_gossip.specs.declared.fault.NodeFault.{NodeFault}
use Rattle.warm_gossip.specs.declared.fault.NodeFault.TheVariants.{Memory, Pool, StaleSlot}
use Rattle.warm_gossip.specs.State.{NodeView}
use Rattle.warm_peer.specs.Answers.{IsAnswer, history_after, sent}
use Rattle.warm_peer.specs.Round.{offer}

-- only the pool may have changed, in this way
abbrev pub OnPool : (PoolView → PoolView → Type 0) → NodeView → NodeView → Type 0
OnPool change old new = (new ≡ record old { pool = new.pool }) × change old.pool new.pool

-- a call of a device has failed
abbrev pub IsFailed : PoolView → PoolView → Type 0
IsFailed v w = (k : ℕ) × FailsAt v k w

-- Warming up

-- the page could be loaded: a device has it, and it is in no frame
abbrev pub IsLoadable : PoolView → PageId → Type 0
IsLoadable v p = HasPage v p × IsAbsent v p

-- the page with this number, of those counted from 0
abbrev pub nth_page : List PageId → ℕ → PageId
nth_page pages i = slice_index_or pages i (record { dev = 0; no = 0 })

-- the first of these pages that could be loaded, or none if none could
abbrev pub IsFirstLoadable : PoolView → List PageId → Option PageId → Type 0
IsFirstLoadable v pages None = (j : ℕ) → j < length pages → IsLoadable v (nth_page pages j) → ⊥
IsFirstLoadable v pages (Some p) = (i : ℕ) × (i < length pages) × (nth_page pages i ≡ p)
    × IsLoadable v p × ((j : ℕ) → j < i → IsLoadable v (nth_page pages j) → ⊥)

-- the page to load next, among the hottest pages, as many as the pool has frames
abbrev pub IsNextWarm : NodeView → Option PageId → Type 0
IsNextWarm s =
    IsFirstLoadable s.pool (hottest_pages (references_of s.history) (length s.pool.frames))

-- Refusals

-- `len` bytes from `at` on are within a page
abbrev pub IsWithinPage : NodeView → ℕ → ℕ → Type 0
IsWithinPage s at len = at + len ≤ s.pool.page_size

-- nothing has changed, and the slot doesn't hold its page
abbrev pub IsStale : NodeView → Slot → NodeView → Type 0
IsStale old slot new = (Holds old.pool slot → ⊥) × (new ≡ old)

-- nothing has changed, and the slot holds its page, but the bytes reach beyond the page
abbrev pub IsBeyond : NodeView → Slot → ℕ → ℕ → NodeView → Type 0
IsBeyond old slot at len new = Holds old.pool slot × (IsWithinPage old at len → ⊥) × (new ≡ old)

-- Why a call is refused, and what has then changed. A call allocates only if this names Memory for
-- it.
abbrev pub Refuses : NodeView → Call → NodeFault → NodeView → Type 0
Refuses old (Absorb batch) Memory new = new ≡ old
Refuses old (Send bucket after) Memory new = new ≡ old
Refuses old Offer Memory new = new ≡ old
Refuses old (Receive message) Memory new = new ≡ old
Refuses old (Pin p) (Pool why) new = OnPool (λ v w. PinRefused old.history v p why w) old new
Refuses old (Unpin slot) StaleSlot new = IsStale old slot new
Refuses old (Read slot at len) StaleSlot new = IsStale old slot new
Refuses old (Read slot at len) (Pool OutOfPage) new = IsBeyond old slot at len new
Refuses old (Read slot at len) Memory new = Holds old.pool slot × IsWithinPage old at len
    × (new ≡ old)
Refuses old (Write slot at bytes) StaleSlot new = IsStale old slot new
Refuses old (Write slot at bytes) (Pool OutOfPage) new = IsBeyond old slot at (length bytes) new
Refuses old (WarmList n) Memory new = new ≡ old
Refuses old WarmStep Memory new = new ≡ old
Refuses old WarmStep (Pool why) new = (p : PageId) × IsNextWarm old (Some p)
    × OnPool (λ v w. PutRefused old.history v p why w) old new
Refuses old Restart (Pool Fixed) new = IsFixed old.pool × (new ≡ old)
Refuses old Restart (Pool Fault) new = IsUnfixed old.pool × OnPool IsFailed old new
Refuses old call said new = ⊥

-- Steps

-- The transition relation: from old, the call may get this reply and lead to new.
abbrev pub Step : NodeView → Call → Reply → NodeView → Type 0
Step old call (Refused said) new = Refuses old call said new
Step old (Absorb batch) Done new =
    new ≡ record old { history = history (references_of old.history ∪ set_of_list batch) }
Step old (Send bucket after) (Sent message) new = (message ≡ sent old.id old.history bucket after)
    × (new ≡ old)
Step old Offer (Sent message) new = (message ≡ offer old.id old.history) × (new ≡ old)
Step old (Horizon time) (Kept horizon) new =
    (new ≡ record old { history = history (with_horizon time (references_of old.history)) })
    × (horizon ≡ new.history.horizon)
Step old (Receive message) (Answers messages) new = IsAnswer old.id old.history message messages
    × (new ≡ record old { history = history_after old.history message })
Step old (Pin p) (Pinned slot) new = OnPool (λ v w. PinnedIn old.history v p slot w) old new
Step old (Unpin slot) Done new = Holds old.pool slot
    × (new ≡ record old { pool = unpinned old.pool slot })
Step old (Read slot at len) (Bytes bytes) new = Holds old.pool slot × (length bytes ≡ len)
    × IsRead old.pool slot at bytes × (new ≡ old)
Step old (Write slot at bytes) Done new = Holds old.pool slot
    × OnPool (λ v w. Written v slot at bytes w) old new
Step old Victim (Page victim) new =
    IsVictim (references_of old.history) (unfixed_pages old.pool) victim × (new ≡ old)
Step old (WarmList n) (Pages pages) new = (pages ≡ hottest_pages (references_of old.history) n)
    × (new ≡ old)
Step old WarmStep (Loaded None) new = IsNextWarm old None × (new ≡ old)
Step old WarmStep (Loaded (Some p)) new = IsNextWarm old (Some p)
    × OnPool (λ v w. (slot : Slot) × PutsIn old.history v p 0 slot w) old new
Step old Restart Done new = (new ≡ record old { history = history_of_entries []; pool = new.pool })
    × Emptied old.pool new.pool
Step old call reply new = ⊥

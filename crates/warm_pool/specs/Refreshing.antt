-- Updating ranks.
use Rattle.std.specs.Prelude.{ℕ, ◌≡◌, List, Some, Contains}
use Rattle.warm_stamps.specs.declared.PageId.{PageId}
use Rattle.warm_history.specs.Histories.{HistoryView, hist, references_of}
use Rattle.warm_frame_table.specs.Frames.{nth_frame}
use Rattle.warm_rank.specs.Keys.{rank_key}
use Rattle.warm_pool.specs.State.{PoolState, RankedBy}

-- both histories agree on each page except these
abbrev pub AgreeOutside : List PageId → HistoryView → HistoryView → Type 0
AgreeOutside pages g h = (p : PageId) → (Contains pages p → ⊥)
    → hist (references_of g) p ≡ hist (references_of h) p

-- Each of these pages that is resident has the rank that the history gives it, whatever the ranks
-- of the other pages are.
abbrev pub UpdatesNamedRanks : List PageId → HistoryView → PoolState → Type 0
UpdatesNamedRanks pages h new = (i : ℕ) (p : PageId) → (nth_frame new.frames i).page ≡ Some p
    → Contains pages p → (nth_frame new.frames i).key ≡ Some (rank_key p (hist (references_of h) p))

-- a history that agrees, except on these pages, with one that ranked the old pool ranks the new one
abbrev pub RefreshesRanks : List PageId → HistoryView → PoolState → PoolState → Type 0
RefreshesRanks pages h old new = (g : HistoryView) → RankedBy old g → AgreeOutside pages g h
    → RankedBy new h

-- each frame keeps its page, and keeps its rank unless its page is among these
pub record KeepsOtherRanks (given : List PageId) (old new : PoolState) : Type 0 where
  pub pages : (i : ℕ) → (nth_frame new.frames i).page ≡ (nth_frame old.frames i).page
  pub keys : (i : ℕ)
      → ((p : PageId) → (nth_frame old.frames i).page ≡ Some p → Contains given p → ⊥)
      → (nth_frame new.frames i).key ≡ (nth_frame old.frames i).key

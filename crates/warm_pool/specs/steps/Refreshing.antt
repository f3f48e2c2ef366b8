-- The steps that renew ranks.
use Rattle.std.specs.Prelude.{ℕ, ◌≡◌, ◌≢◌, Some}
use Rattle.std.specs.Option.{option_map}
use Rattle.warm_stamps.specs.declared.PageId.{PageId}
use Rattle.warm_history.specs.Histories.{HistoryView, hist, references_of}
use Rattle.warm_rank.specs.declared.RankKey.{RankKey}
use Rattle.warm_rank.specs.Keys.{rank_key}
use Rattle.warm_frame_table.specs.Frames.{nth_frame}
use Rattle.warm_pool.specs.State.{PoolState}

-- the frame of the page, if it is resident, has this rank
pub record UpdatesRank (old : PoolState) (p : PageId) (key : RankKey)
    (new : PoolState) : Type 0 where
  pub pages : (i : ℕ) → (nth_frame new.frames i).page ≡ (nth_frame old.frames i).page
  pub here : (i : ℕ) → (nth_frame old.frames i).page ≡ Some p
      → (nth_frame new.frames i).key ≡ Some key
  pub others : (i : ℕ) → (nth_frame old.frames i).page ≢ Some p
      → (nth_frame new.frames i).key ≡ (nth_frame old.frames i).key

-- this frame has the rank that the history gives its page, if it has one, and the others keep their
-- ranks
pub record UpdatesRankIn (old : PoolState) (at : ℕ) (h : HistoryView)
    (new : PoolState) : Type 0 where
  pub pages : (i : ℕ) → (nth_frame new.frames i).page ≡ (nth_frame old.frames i).page
  pub here : (nth_frame new.frames at).key
      ≡ option_map (λ p. rank_key p (hist (references_of h) p)) (nth_frame new.frames at).page
  pub others : (i : ℕ) → i ≢ at → (nth_frame new.frames i).key ≡ (nth_frame old.frames i).key

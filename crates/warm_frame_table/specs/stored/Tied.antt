-- What the contest knows of the frames.
use Rattle.std.specs.Prelude.{◌≡◌, ◌⊎◌, ℕ, false, List, length, Option, None}
use Rattle.std.specs.Ordering.{is_gt}
use Rattle.warm_stamps.specs.declared.PageId.{PageId}
use Rattle.warm_rank.specs.declared.RankKey.{RankKey}
use Rattle.warm_rank.specs.Keys.{key_cmp}
use Rattle.warm_rank.specs.Slots.{key_at, set_first_cmp}
use Rattle.warm_frame_table.specs.declared.frame.Status.{Status}
use Rattle.warm_frame_table.specs.Frames.{FrameState, nth_frame, eviction_key}
use Rattle.warm_frame_table.specs.stored.Parts.{FrameBody, frames_of}

-- What the contest knows of a frame may lag behind: the slot's key is at most the rank with which
-- the page competes. A missing key counts as the greatest. A key that the slot has is at most the
-- page's rank, pinned or not.
pub record LagsBehind (key : Option RankKey) (f : FrameState) : Type 0 where
  pub competes : is_gt (set_first_cmp key_cmp key (eviction_key f)) ≡ false
  pub ranked : (key ≡ None) ⊎ (is_gt (set_first_cmp key_cmp key f.key) ≡ false)

-- each frame has a status, a body and a slot of the contest, which may lag behind it
pub record AreTied (pages : List (Option PageId)) (statuses : List Status) (bodies : List FrameBody)
    (contest : List (Option RankKey)) : Type 0 where
  pub status_each : length statuses ≡ length pages
  pub body_each : length bodies ≡ length pages
  pub contest_each : length contest ≡ length pages
  pub lags : (i : ℕ) → LagsBehind (key_at contest i) (nth_frame (frames_of pages statuses bodies) i)

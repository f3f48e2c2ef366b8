-- The parts of frames as they are stored: their pages, their statuses, and the rest of each.
use Rattle.std.specs.Prelude.{ℕ, ◌+◌, false, List, [], ◌∷◌, replicate, Option, Some, None}
use Rattle.warm_stamps.specs.declared.PageId.{PageId}
use Rattle.warm_rank.specs.declared.RankKey.{RankKey}
use Rattle.warm_frame_table.specs.declared.frame.Status.{Status}
use Rattle.warm_frame_table.specs.Frames.{FrameState}

-- the rest of a frame, without its page and its status: a rank, which means nothing without a page,
-- the generation, and the bytes
pub record FrameBody : Type 0 where
  pub key : Option RankKey
  pub generation : ℕ
  pub bytes : List ℕ

-- the rank of the page in a frame
abbrev pub rank_in : Option PageId → Option RankKey → Option RankKey
rank_in None key = None
rank_in (Some page) key = key

-- the frame with this page, this status and this body
abbrev pub frame_of : Option PageId → Status → FrameBody → FrameState
frame_of page status body = record {
  page = page;
  key = rank_in page body.key;
  generation = body.generation;
  fixes = status.fixes;
  dirty = status.dirty;
  bytes = body.bytes;
}

-- the frames with these pages, statuses and bodies, in their order
abbrev pub frames_of : List (Option PageId) → List Status → List FrameBody → List FrameState
frames_of (page ∷ pages) (status ∷ statuses) (body ∷ bodies) =
    frame_of page status body ∷ frames_of pages statuses bodies
frames_of pages statuses bodies = []

-- the status of a frame without a page
abbrev pub unused_status : Status
unused_status = record { fixes = 0; dirty = false }

-- the body of a frame into which no page was ever loaded
abbrev pub fresh_body : List ℕ → FrameBody
fresh_body bytes = record { key = None; generation = 0; bytes = bytes }

-- the bodies of this many frames into which no page was ever loaded, each of `size` zeros
abbrev pub fresh_bodies : ℕ → ℕ → List FrameBody
fresh_bodies frames size = replicate frames (fresh_body (replicate size 0))

-- the body of a frame after a page with these bytes and this rank was loaded into it: all but the
-- page and its status
abbrev pub filled_body : RankKey → List ℕ → FrameBody → FrameBody
filled_body key bytes body =
    record { key = Some key; generation = body.generation + 1; bytes = bytes }

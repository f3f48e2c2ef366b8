-- The frames of a pool as plain data.
use Rattle.std.specs.Prelude.{ℕ, ◌+◌, ◌==◌, Bool, true, false, List, [], ◌∷◌, map, replicate}
use Rattle.std.specs.Prelude.{Option, None, slice_index_or, if◌then◌else◌}
use Rattle.warm_stamps.specs.declared.PageId.{PageId}
use Rattle.warm_rank.specs.declared.RankKey.{RankKey}

-- A frame: its page and the page's rank, its generation (how many pages have been loaded into it),
-- the pin count (`fixes`), whether the page is dirty (differs or may differ from its device's
-- copy), and its bytes.
pub record FrameState : Type 0 where
  pub page : Option PageId
  pub key : Option RankKey
  pub generation : ℕ
  pub fixes : ℕ
  pub dirty : Bool
  pub bytes : List ℕ

-- a frame without a page, into which none was ever loaded
abbrev pub fresh_frame : List ℕ → FrameState
fresh_frame bytes =
    record { page = None; key = None; generation = 0; fixes = 0; dirty = false; bytes = bytes }

-- the frame of this index, from 0
abbrev pub nth_frame : List FrameState → ℕ → FrameState
nth_frame frames i = slice_index_or frames i (fresh_frame [])

-- frames of pages of one size
pub record FramesState : Type 0 where
  pub page_size : ℕ
  pub frames : List FrameState

-- this many frames without a page
abbrev pub fresh_frames : ℕ → ℕ → FramesState
fresh_frames frames size =
    record { page_size = size; frames = replicate frames (fresh_frame (replicate size 0)) }

-- the page of each frame
abbrev pub pages_held : List FrameState → List (Option PageId)
pages_held frames = map (λ f. f.page) frames

-- 1 if true, else 0
abbrev pub one_if : Bool → ℕ
one_if true = 1
one_if false = 0

-- how many of these frames are dirty
abbrev pub dirty_count : List FrameState → ℕ
dirty_count [] = 0
dirty_count (f ∷ frames) = one_if f.dirty + dirty_count frames

-- the rank with which a page of this pin count competes for eviction: a pinned page has none
abbrev pub key_unless_fixed : ℕ → Option RankKey → Option RankKey
key_unless_fixed fixes key = if fixes == 0 then key else None

-- the rank with which the frame's page competes for eviction
abbrev pub eviction_key : FrameState → Option RankKey
eviction_key f = key_unless_fixed f.fixes f.key

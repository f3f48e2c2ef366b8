-- What a step does to one frame.
use Rattle.std.specs.Prelude.{ℕ, ◌+◌, ◌-◌, true, false, List, ◌++◌, length, take, drop, set}
use Rattle.std.specs.Prelude.{Some, None}
use Rattle.warm_stamps.specs.declared.PageId.{PageId}
use Rattle.warm_rank.specs.declared.RankKey.{RankKey}
use Rattle.warm_frame_table.specs.Frames.{FrameState, FramesState, nth_frame}

-- the frames after this change of one of them
abbrev pub changed_at : FramesState → ℕ → (FrameState → FrameState) → FramesState
changed_at all at change =
    record all { frames = set all.frames at (change (nth_frame all.frames at)) }

-- the frame after a page with these bytes was loaded into it, with this rank and this pin count
abbrev pub loaded_frame : PageId → RankKey → ℕ → List ℕ → FrameState → FrameState
loaded_frame page key fixes bytes f =
    record {
      page = Some page;
      key = Some key;
      generation = f.generation + 1;
      fixes = fixes;
      dirty = false;
      bytes = bytes;
    }

-- the frame after its page was evicted
abbrev pub vacated : FrameState → FrameState
vacated f = record f { page = None; key = None; dirty = false }

-- the frame after its page was written back
abbrev pub cleaned : FrameState → FrameState
cleaned f = record f { dirty = false }

-- the frame with one more pin
abbrev pub fixed : FrameState → FrameState
fixed f = record f { fixes = f.fixes + 1 }

-- the frame with one pin fewer
abbrev pub unfixed : FrameState → FrameState
unfixed f = record f { fixes = f.fixes - 1 }

-- the frame with this rank
abbrev pub ranked : RankKey → FrameState → FrameState
ranked key f = record f { key = Some key }

-- the bytes with these written from `at` on
abbrev pub patched : List ℕ → ℕ → List ℕ → List ℕ
patched old at bytes = take at old ++ bytes ++ drop (at + length bytes) old

-- the frame after bytes were written to its page from an offset on
abbrev pub written : ℕ → List ℕ → FrameState → FrameState
written from bytes f = record f { dirty = true; bytes = patched f.bytes from bytes }

-- The statuses of a pool's frames.
use Rattle.std.specs.Prelude.{ℕ, ◌+◌, ◌-◌, Bool, List, [], ◌∷◌, slice_index_or}
use Rattle.warm_frame_table.specs.declared.frame.Status.{Status}
use Rattle.warm_frame_table.specs.Frames.{one_if}
use Rattle.warm_frame_table.specs.stored.Parts.{unused_status}

-- the status of the frame of this index, from 0
abbrev pub status_at : List Status → ℕ → Status
status_at statuses i = slice_index_or statuses i unused_status

-- how many of these statuses are dirty
abbrev pub dirty_statuses : List Status → ℕ
dirty_statuses [] = 0
dirty_statuses (s ∷ statuses) = one_if s.dirty + dirty_statuses statuses

-- the status with one more pin
abbrev pub status_fixed : Status → Status
status_fixed s = record s { fixes = s.fixes + 1 }

-- the status with one pin fewer
abbrev pub status_unfixed : Status → Status
status_unfixed s = record s { fixes = s.fixes - 1 }

-- the status with this dirty flag
abbrev pub status_marked : Bool → Status → Status
status_marked dirty s = record s { dirty = dirty }

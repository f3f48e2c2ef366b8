-- The step by which pages are forgotten.
use Rattle.std.specs.Prelude.{length}
use Rattle.warm_frame_table.specs.declared.selection.Devices.{Devices}
use Rattle.warm_frame_table.specs.Frames.{FramesState}
use Rattle.warm_pool.specs.WritingBack.{cleaned_selected}

-- the frames, those of selected pages clean
abbrev pub selected_cleaned : Devices → FramesState → FramesState
selected_cleaned which s =
    record s { frames = cleaned_selected which (length s.frames) s.frames }

-- The page table: the pages of the frames, in hash chains, and their number.
use Rattle.std.specs.Prelude.{◌≡◌, ℕ, List, length, Option, Some, None, if◌then◌else◌}
use Rattle.warm_stamps.specs.declared.PageId.{PageId}
use Rattle.warm_rank.specs.Laws.{pages_in}
use Rattle.warm_frame_table.specs.declared.selection.Devices.{Devices}
use Rattle.warm_frame_table.specs.Selection.{selects}
use Rattle.warm_frame_table.specs.stored.Chains.{AreLinked}

-- each frame is in the chain of its page, and the pages are counted
pub record IsTable (pages : List (Option PageId)) (heads next : List ℕ) (held : ℕ) : Type 0 where
  pub linked : AreLinked pages heads next
  pub counted : held ≡ length (pages_in pages)

-- 1 for a frame with a page, else 0
abbrev pub one_if_held : Option PageId → ℕ
one_if_held None = 0
one_if_held (Some p) = 1

-- the page of a frame after the selected frames are vacated
abbrev pub clear_if : Devices → Option PageId → Option PageId
clear_if which page = if selects which page then None else page

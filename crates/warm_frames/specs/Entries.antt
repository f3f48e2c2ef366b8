-- Lists of entries, and entries as bytes.
use Rattle.std.specs.Prelude.{◌≡◌, ℕ, ◌≤◌, List, ◌∷◌, ◌++◌, length}
use Rattle.std.specs.List.{AllByRecursion, flat_map}
use Rattle.std.specs.declared.cmp.Ordering.TheVariants.{Less}
use Rattle.warm_stamps.specs.Bytes.{bytes_of_stamp, bytes_of_page, narrow_bytes_of_page, IsStamp}
use Rattle.warm_stamps.specs.Bytes.{IsPage}
use Rattle.warm_stamps.specs.declared.PageId.{PageId}
use Rattle.warm_stamps.specs.Stamps.{stamp_cmp}
use Rattle.warm_history.specs.PageHist.{PageHist}
use Rattle.warm_history.specs.PageHist.TheVariants.{Once, Twice}
use Rattle.warm_history.specs.Entry.{Entry}
use Rattle.warm_history.specs.Histories.{PagesAscend}
use Rattle.warm_frames.specs.declared.format.Format.{Format}
use Rattle.warm_frames.specs.declared.format.Format.TheVariants.{Narrow, Wide}
use Rattle.warm_frames.specs.declared.layout.TheConstants.{MAX_ENTRIES}

-- the stamps of an entry are valid, and of two the second is older
abbrev pub IsHist : PageHist → Type 0
IsHist (Once last) = IsStamp last
IsHist (Twice two) = IsStamp two.last × IsStamp two.prev × (stamp_cmp two.prev two.last ≡ Less)

-- the valid entries
pub record IsEntry (e : Entry) : Type 0 where
  pub page : IsPage e.page
  pub hist : IsHist e.hist

-- entries that fit in one frame: their pages ascend, and there are at most MAX_ENTRIES
abbrev pub FitsInFrame : List Entry → Type 0
FitsInFrame es = PagesAscend es × (length es ≤ MAX_ENTRIES)

-- a list of valid entries that fits in a frame
pub record IsEntryList (es : List Entry) : Type 0 where
  pub pages_ascend : PagesAscend es
  pub at_most : length es ≤ MAX_ENTRIES
  pub each : AllByRecursion IsEntry es

-- a tag, which is the number of stamps, and the stamps, the later one first
abbrev pub hist_bytes : PageHist → List ℕ
hist_bytes (Once last) = 1 ∷ bytes_of_stamp last
hist_bytes (Twice two) = 2 ∷ (bytes_of_stamp two.last ++ bytes_of_stamp two.prev)

-- the bytes of a page in a format
abbrev pub page_bytes_in : Format → PageId → List ℕ
page_bytes_in Narrow p = narrow_bytes_of_page p
page_bytes_in Wide p = bytes_of_page p

-- the page, and what is kept of it
abbrev pub entry_bytes_in : Format → Entry → List ℕ
entry_bytes_in format e = page_bytes_in format e.page ++ hist_bytes e.hist

-- entries one after the other, without a count
abbrev pub entries_bytes_in : Format → List Entry → List ℕ
entries_bytes_in format es = flat_map (entry_bytes_in format) es

-- an entry's bytes as they are written and digested
abbrev pub entry_bytes : Entry → List ℕ
entry_bytes e = entry_bytes_in Wide e

-- the bytes of entries one after the other, as they are written and digested
abbrev pub entries_bytes : List Entry → List ℕ
entries_bytes es = entries_bytes_in Wide es

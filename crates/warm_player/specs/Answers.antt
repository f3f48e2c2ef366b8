-- The text printed for an answer of the world. Numbers are in decimal, and each line ends with byte
-- 0A.
use Rattle.std.specs.Prelude.{ℕ, zero, suc, ◌+◌, ◌/◌, ◌%◌, nat_lt, if◌then◌else◌, List, [], ◌∷◌}
use Rattle.std.specs.Prelude.{◌++◌, length, flat_map, codes, decimal, Option, Some, None, Result}
use Rattle.std.specs.Prelude.{OnOk}
use Rattle.std.specs.Io.KnownBytes.{Appends}
use Rattle.warm_stamps.specs.declared.PageId.{PageId}
use Rattle.warm_stamps.specs.declared.Stamp.{Stamp}
use Rattle.warm_pool.specs.declared.slot.Slot.{Slot}
use Rattle.warm_history.specs.Histories.{entries_of}
use Rattle.warm_history.specs.Entry.{Entry}
use Rattle.warm_history.specs.PageHist.{PageHist}
use Rattle.warm_history.specs.PageHist.TheVariants.{Once, Twice}
use Rattle.warm_world.specs.declared.event.Answer.{Answer}
use Rattle.warm_world.specs.declared.event.Answer.TheVariants.{Done, Shown, FrameNo, Took, Pinned}
use Rattle.warm_world.specs.declared.event.Answer.TheVariants.{Bytes, Page, Pages, Loaded, Kept}
use Rattle.warm_world.specs.declared.event.Answer.TheVariants.{Refused}
use Rattle.warm_world.specs.declared.event.WorldFault.{WorldFault}
use Rattle.warm_world.specs.Faults.{code_of, name_of}

-- a call that returns Ok has appended exactly this text
abbrev pub Prints : {E : Type 0} → Result (Unit {0}) E → Option (List ℕ) → Option (List ℕ)
    → List ℕ → Type 0
Prints result old new text = OnOk result (Appends old new text)

-- DEVICE:NUMBER
abbrev pub page_text : PageId → List ℕ
page_text page = decimal page.dev ++ codes ":" ++ decimal page.no

-- TIME@REPLICA
abbrev pub stamp_text : Stamp → List ℕ
stamp_text stamp = decimal stamp.time ++ codes "@" ++ decimal stamp.replica

-- the stamps of a page
abbrev pub hist_text : PageHist → List ℕ
hist_text (Once last) = codes " last " ++ stamp_text last
hist_text (Twice two) = codes " last " ++ stamp_text two.last ++ codes " prev "
    ++ stamp_text two.prev

-- the line of a page with its latest stamps
abbrev pub entry_text : Entry → List ℕ
entry_text entry = page_text entry.page ++ hist_text entry.hist ++ codes "\n"

-- the line after this many pages
abbrev pub end_text : ℕ → List ℕ
end_text count = codes "end " ++ decimal count ++ codes "\n"

-- a history: a line for each page, and the last line
abbrev pub shown_text : List Entry → List ℕ
shown_text entries = flat_map entry_text entries ++ end_text (length entries)

-- how many messages answer, and the number of the first if there is one
abbrev pub took_text : ℕ → ℕ → List ℕ
took_text zero first = codes "took 0\n"
took_text (suc n) first = codes "took " ++ decimal (suc n) ++ codes " from " ++ decimal first
    ++ codes "\n"

-- a page of a list, after a space
abbrev pub listed_text : PageId → List ℕ
listed_text page = codes " " ++ page_text page

-- the pages of a list
abbrev pub pages_text : List PageId → List ℕ
pages_text pages = flat_map listed_text pages

-- FRAME.GENERATION
abbrev pub slot_text : Slot → List ℕ
slot_text slot = decimal slot.index ++ codes "." ++ decimal slot.generation

-- 0 to 9, then a to f
abbrev pub hex_text : ℕ → ℕ
hex_text digit = if nat_lt digit 10 then 48 + digit else 87 + digit

-- a byte as two hexadecimal digits
abbrev pub byte_text : ℕ → List ℕ
byte_text byte = hex_text (byte / 16) ∷ hex_text (byte % 16) ∷ []

-- bytes after a space, or nothing if there is none
abbrev pub bytes_text : List ℕ → List ℕ
bytes_text [] = []
bytes_text (byte ∷ bytes) = codes " " ++ flat_map byte_text (byte ∷ bytes)

-- a page after a word, or `none`
abbrev pub page_if_any : List ℕ → Option PageId → List ℕ
page_if_any word None = codes "none\n"
page_if_any word (Some page) = word ++ page_text page ++ codes "\n"

-- a fault: its number and its name
abbrev pub refused_text : WorldFault → List ℕ
refused_text fault =
    codes "refused " ++ decimal (code_of fault) ++ codes " " ++ name_of fault ++ codes "\n"

-- the text of an answer
abbrev pub answer_text : Answer → List ℕ
answer_text Done = codes "ok\n"
answer_text (Shown history) = shown_text (entries_of history)
answer_text (FrameNo k) = codes "frame " ++ decimal k ++ codes "\n"
answer_text (Took count first) = took_text count first
answer_text (Pinned slot) = codes "slot " ++ slot_text slot ++ codes "\n"
answer_text (Bytes bytes) = codes "bytes" ++ bytes_text bytes ++ codes "\n"
answer_text (Page page) = page_if_any (codes "page ") page
answer_text (Pages pages) = codes "pages" ++ pages_text pages ++ codes "\n"
answer_text (Loaded page) = page_if_any (codes "loaded ") page
answer_text (Kept horizon) = codes "horizon " ++ decimal horizon ++ codes "\n"
answer_text (Refused fault) = refused_text fault

-- what is printed for a bad line
abbrev pub bad_line : ℕ → List ℕ
bad_line number = codes "bad line " ++ decimal number ++ codes "\n"

-- the last line printed if writing back to the devices failed
abbrev pub end_refused : List ℕ
end_refused = codes "end refused 12 Fault\n"

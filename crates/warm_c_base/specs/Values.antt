-- What crosses to C, in the node's terms.
use Rattle.std.specs.Prelude.{ℕ, ◌≡◌, ◌↔◌, ◌≤◌, Bool, true, false, List, ◌++◌, length, drop, Option}
use Rattle.std.specs.Prelude.{Some, None}
use Rattle.warm_stamps.specs.declared.PageId.{PageId}
use Rattle.warm_stamps.specs.declared.Reference.{Reference}
use Rattle.warm_pool.specs.declared.dirty.DirtyFrame.{DirtyFrame}
use Rattle.warm_pool.specs.declared.slot.Slot.{Slot}
use Rattle.warm_c_base.specs.declared.values.PinnedSlot.{PinnedSlot}
use Rattle.warm_c_base.specs.declared.values.WarmPage.{WarmPage}
use Rattle.warm_c_base.specs.declared.values.WarmReference.{WarmReference}
use Rattle.warm_c_base.specs.declared.values.WarmSlot.{WarmSlot}

-- a page of C, as the node knows it
abbrev pub page_of_c : WarmPage → PageId
page_of_c p = record { dev = p.dev; no = p.no }

-- a page of the node, as C knows it
abbrev pub c_page : PageId → WarmPage
c_page p = record { no = p.no; dev = p.dev }

-- the page, if there is one
abbrev pub page_if : Bool → WarmPage → Option PageId
page_if true p = Some (page_of_c p)
page_if false p = None

-- whether there is a page, as a bool of C, and which; page is as it was if there is none
abbrev pub IsOptionalPage : Option PageId → WarmPage → ℕ → WarmPage → Type 0
IsOptionalPage None before found page = (found ≡ 0) × (page ≡ before)
IsOptionalPage (Some p) before found page = (found ≡ 1) × (page ≡ c_page p)

-- whether there is a dirty frame, which, and its page; frame and page are as they were if there is
-- none
abbrev pub IsOptionalDirty : Option DirtyFrame → ℕ → WarmPage → ℕ → ℕ → WarmPage → Type 0
IsOptionalDirty None frame page found frame' page' =
    IsOptionalPage None page found page' × (frame' ≡ frame)
IsOptionalDirty (Some d) frame page found frame' page' =
    IsOptionalPage (Some d.page) page found page' × (frame' ≡ d.frame)

-- a bool of C that says whether this holds
abbrev pub IsBool : ℕ → Type 0 → Type 0
IsBool n holds = (n ≤ 1) × ((n ≡ 1) ↔ holds)

-- a reference as the node knows it
abbrev pub reference_of : WarmReference → Reference
reference_of r =
    record {
      page = record { dev = r.dev; no = r.no };
      stamp = record { time = r.time; replica = r.replica };
    }

-- a slot that C passes, as the node knows it
abbrev pub slot_of_c : WarmSlot → Slot
slot_of_c s = record { index = s.index; generation = s.generation }

-- a slot as a pin gives it to C
abbrev pub c_slot : Slot → PinnedSlot
c_slot s = record { generation = s.generation; index = s.index }

-- the slot that a pin gave
abbrev pub pinned_slot : PinnedSlot → Slot
pinned_slot s = record { index = s.index; generation = s.generation }

-- the buffer with these items at its start
abbrev pub with_start : {A : Type 0} → List A → List A → List A
with_start items buffer = items ++ drop (length items) buffer

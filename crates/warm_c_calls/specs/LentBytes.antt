-- What a call does that lends the bytes of a page to C.
use Rattle.std.specs.Prelude.{ℕ, ◌≡◌, List, Ok, Err}
use denote.RawPtr.{Ptr}
use Rattle.warm_pool.specs.PageBytes.{IsLent}
use Rattle.warm_pool.specs.View.{view_of, Holds}
use Rattle.warm_gossip.specs.Lending.{relent_node}
use Rattle.warm_gossip.specs.declared.fault.NodeFault.TheVariants.{StaleSlot}
use Rattle.warm_c_calls.specs.declared.open_node.OpenNode.{OpenNode}
use Rattle.warm_c_base.specs.declared.status.Refusal.{Refusal}
use Rattle.warm_c_base.specs.declared.status.Refusal.TheVariants.{Node}
use Rattle.warm_c_base.specs.declared.values.PinnedSlot.{PinnedSlot}
use Rattle.warm_c_base.specs.declared.values.WarmPage.{WarmPage}
use Rattle.warm_c_base.specs.declared.values.WarmSlot.{WarmSlot}
use Rattle.warm_c_calls.specs.Calls.{Ending, Pins, SameDevices}
use Rattle.warm_c_base.specs.Values.{slot_of_c}

-- the slot does not hold its page, and the pointer is as it was
abbrev pub LendRefused : WarmSlot → Ptr → Ptr → OpenNode → Refusal → Type 0
LendRefused slot old new h (Node StaleSlot) = (Holds (view_of h.node.pool) (slot_of_c slot) → ⊥)
    × (new ≡ old)
LendRefused slot old new h why = ⊥

-- The slot holds its page, and the handle is as it was. That the address is that of the page's
-- bytes, and that they stay there, is nothing that a clause can say: the header says it.
abbrev pub Lends : WarmSlot → Ptr → Ptr → OpenNode → Ending → OpenNode → Type 0
Lends slot before after old (Ok given) new = Holds (view_of old.node.pool) (slot_of_c slot)
    × (new ≡ old)
Lends slot before after old (Err why) new = LendRefused slot before after old why × (new ≡ old)

-- The page is pinned as by a pin, and an address is written. That it is that of the page's bytes is
-- nothing that a clause can say. A refused call writes none.
abbrev pub PinsAndLends : WarmPage → PinnedSlot → PinnedSlot → Ptr → Ptr → OpenNode → Ending
    → OpenNode → Type 0
PinsAndLends page before after at at' old (Ok given) new = Pins page before after old (Ok given) new
PinsAndLends page before after at at' old (Err why) new =
    Pins page before after old (Err why) new × (at' ≡ at)

-- To be written to

-- The slot holds its page, of these bytes. The node is as after the same bytes were left there: the
-- page is dirty, and nothing else has changed.
pub record LendsMutBytes (slot : WarmSlot) (old new : OpenNode) : Type 0 where
  pub bytes : List ℕ
  pub holds : Holds (view_of old.node.pool) (slot_of_c slot)
  pub lent : IsLent (view_of old.node.pool) (slot_of_c slot) bytes
  pub dirty : new.node ≡ relent_node old.node slot.index bytes
  pub devices : SameDevices old new

-- The page's bytes are lent to be written to; or the slot does not hold its page, and nothing has
-- changed.
abbrev pub LendsMut : WarmSlot → Ptr → Ptr → OpenNode → Ending → OpenNode → Type 0
LendsMut slot before after old (Ok given) new = LendsMutBytes slot old new
LendsMut slot before after old (Err why) new = LendRefused slot before after old why × (new ≡ old)

-- What each call does to what an open handle holds, and what it writes.
use Rattle.std.specs.Prelude.{ℕ, ◌<◌, ◌≡◌, List, map, length, Option, IfSome, Result, Ok, Err}
use Rattle.std.specs.Prelude.{Contains}
use Rattle.std.specs.List.{AllByRecursion}
use Rattle.warm_stamps.specs.Replicas.{IsReplica}
use Rattle.warm_stamps.specs.declared.PageId.{PageId}
use Rattle.warm_history.specs.Histories.{HistoryView, IsHistory, entries_of}
use Rattle.warm_dump.specs.Reading.{IsDump, IsDumpRefused}
use Rattle.warm_dump.specs.Writing.{StopsWriting}
use Rattle.warm_frames.specs.declared.message.Message.{Message}
use Rattle.warm_frames.specs.Encoding.{encoding}
use Rattle.warm_pool.specs.Unchanged.{KeepsBytes}
use Rattle.warm_pool.specs.View.{view_of, IsResident}
use Rattle.warm_gossip.specs.declared.call.Call.{Call}
use Rattle.warm_gossip.specs.declared.call.Call.TheVariants.{Absorb, Pin, Unpin, Write}
use Rattle.warm_gossip.specs.declared.call.Call.TheVariants.{Read, Victim, WarmList, WarmStep}
use Rattle.warm_gossip.specs.declared.call.Reply.{Reply}
use Rattle.warm_gossip.specs.declared.call.Reply.TheVariants.{Done, Pinned, Bytes}
use Rattle.warm_gossip.specs.declared.call.Reply.TheVariants.{Page, Pages, Loaded, Refused}
use Rattle.warm_gossip.specs.declared.fault.NodeFault.TheVariants.{Memory}
use Rattle.warm_gossip.specs.Clauses.{DevicesAfter, Goes, Joins, SameView}
use Rattle.warm_c_calls.specs.declared.open_node.OpenNode.{OpenNode}
use Rattle.warm_c_base.specs.declared.status.Refusal.{Refusal}
use Rattle.warm_c_base.specs.declared.status.Refusal.TheVariants.{Node, BufferTooSmall, BadReplica}
use Rattle.warm_c_base.specs.declared.status.Refusal.TheVariants.{Dump}
use Rattle.warm_c_base.specs.declared.values.PinnedSlot.{PinnedSlot}
use Rattle.warm_c_base.specs.declared.values.WarmPage.{WarmPage}
use Rattle.warm_c_base.specs.declared.values.WarmReference.{WarmReference}
use Rattle.warm_c_base.specs.declared.values.WarmSlot.{WarmSlot}
use Rattle.warm_c_base.specs.Values.{c_page, IsBool, IsOptionalPage, page_of_c, pinned_slot}
use Rattle.warm_c_base.specs.Values.{reference_of, slot_of_c, with_start}

-- what a call of the library ends with
abbrev pub Ending : Type 0
Ending = Result (Unit {0}) Refusal

-- the devices that the handle was given are as they were
abbrev pub SameDevices : OpenNode → OpenNode → Type 0
SameDevices old new = new.devices ≡ old.devices

-- A caller of the node sees no change. Its devices, the bytes and the dirty flag of each frame, and
-- the devices that the handle was given are as they were.
abbrev pub SameOpen : OpenNode → OpenNode → Type 0
SameOpen old new = SameView old.node new.node × KeepsBytes old.node.pool new.node.pool
    × SameDevices old new

-- The node has answered this call with this reply, and left its devices and the dirty flags of its
-- frames as they are after it. The handle is over the devices that it was given.
abbrev pub Replies : Call → OpenNode → Reply → OpenNode → Type 0
Replies call old reply new = Goes old.node call reply new.node
    × DevicesAfter old.node call reply new.node × SameDevices old new

-- the node refuses the call for this reason
abbrev pub RefusedByNode : Call → OpenNode → Refusal → OpenNode → Type 0
RefusedByNode call old (Node why) new = Replies call old (Refused why) new
RefusedByNode call old why new = ⊥

-- The history

-- one of the references has a number that is no replica's
abbrev pub HasBadReplica : List WarmReference → Type 0
HasBadReplica batch = (r : WarmReference) × Contains batch r × (IsReplica r.replica → ⊥)

-- each reference is of a replica
abbrev pub AreOfReplicas : List WarmReference → Type 0
AreOfReplicas batch = AllByRecursion (λ r. IsReplica r.replica) batch

-- why the references are not those of a node; an allocation may fail
abbrev pub BatchRefused : List WarmReference → Refusal → Type 0
BatchRefused batch BadReplica = HasBadReplica batch
BatchRefused batch (Node Memory) = AreOfReplicas batch
BatchRefused batch why = ⊥

-- the node absorbs the references, or says why not
abbrev pub Absorbs : List WarmReference → OpenNode → Ending → OpenNode → Type 0
Absorbs batch old (Ok given) new = Replies (Absorb (map reference_of batch)) old Done new
Absorbs batch old (Err BadReplica) new = HasBadReplica batch × (new ≡ old)
Absorbs batch old (Err why) new = RefusedByNode (Absorb (map reference_of batch)) old why new

-- the hottest pages stand at the start of the buffer, and their number is given
abbrev pub Lists : List WarmPage → ℕ → List WarmPage → ℕ → OpenNode → Ending → OpenNode → Type 0
Lists before count after number old (Ok given) new =
    (pages : List PageId) × Replies (WarmList (length before)) old (Pages pages) new
    × (after ≡ with_start (map c_page pages) before) × (number ≡ length pages)
Lists before count after number old (Err why) new =
    RefusedByNode (WarmList (length before)) old why new × (after ≡ before) × (number ≡ count)

-- how many pages the history knows
abbrev pub CountsPages : ℕ → OpenNode → OpenNode → Type 0
CountsPages number old new = (number ≡ length (entries_of old.node.history)) × (new ≡ old)

-- The pool

-- the node pins the page, or says why not
abbrev pub Pins : WarmPage → PinnedSlot → PinnedSlot → OpenNode → Ending → OpenNode → Type 0
Pins page before after old (Ok given) new =
    Replies (Pin (page_of_c page)) old (Pinned (pinned_slot after)) new
Pins page before after old (Err why) new = RefusedByNode (Pin (page_of_c page)) old why new
    × (after ≡ before)

-- the node takes one pin of the slot back, or says why not
abbrev pub Unpins : WarmSlot → OpenNode → Ending → OpenNode → Type 0
Unpins slot old (Ok given) new = Replies (Unpin (slot_of_c slot)) old Done new
Unpins slot old (Err why) new = RefusedByNode (Unpin (slot_of_c slot)) old why new

-- as many bytes as the buffer has room for; never refused for memory
abbrev pub ReadsSlot : WarmSlot → ℕ → List ℕ → List ℕ → OpenNode → Ending → OpenNode → Type 0
ReadsSlot slot at before after old (Ok given) new =
    Replies (Read (slot_of_c slot) at (length before)) old (Bytes after) new
ReadsSlot slot at before after old (Err (Node Memory)) new = ⊥
ReadsSlot slot at before after old (Err why) new =
    RefusedByNode (Read (slot_of_c slot) at (length before)) old why new × (after ≡ before)

-- the node writes the bytes into the page of the slot, or says why not
abbrev pub Writes : WarmSlot → ℕ → List ℕ → OpenNode → Ending → OpenNode → Type 0
Writes slot at bytes old (Ok given) new = Replies (Write (slot_of_c slot) at bytes) old Done new
Writes slot at bytes old (Err why) new = RefusedByNode (Write (slot_of_c slot) at bytes) old why new

-- the node names the victim, if there is one
abbrev pub Names : WarmPage → ℕ → WarmPage → OpenNode → OpenNode → Type 0
Names before found page old new = (named : Option PageId) × Replies Victim old (Page named) new
    × IsOptionalPage named before found page

-- the node loads the next page of the warm-up list, if there is one, or says why not
abbrev pub StepsWarmUp : ℕ → WarmPage → ℕ → WarmPage → OpenNode → Ending → OpenNode → Type 0
StepsWarmUp found page found' page' old (Ok given) new = (loaded : Option PageId)
    × Replies WarmStep old (Loaded loaded) new × IsOptionalPage loaded page found' page'
StepsWarmUp found page found' page' old (Err why) new = RefusedByNode WarmStep old why new
    × (found' ≡ found) × (page' ≡ page)

-- whether the page is in a frame
abbrev pub SaysResident : WarmPage → ℕ → OpenNode → OpenNode → Type 0
SaysResident page number old new =
    IsBool number (IsResident (view_of old.node.pool) (page_of_c page)) × (new ≡ old)

-- Frames

-- the frame of a message stands at the start of the buffer, and its length is written, even if the
-- frame does not fit
abbrev pub PutsFrame : Message → List ℕ → ℕ → List ℕ → ℕ → Ending → Type 0
PutsFrame message before len after len' (Ok given) = (after ≡ with_start (encoding message) before)
    × (len' ≡ length (encoding message))
PutsFrame message before len after len' (Err BufferTooSmall) =
    (length before < length (encoding message)) × (after ≡ before)
    × (len' ≡ length (encoding message))
PutsFrame message before len after len' (Err (Node Memory)) = (after ≡ before) × (len' ≡ len)
PutsFrame message before len after len' (Err why) = ⊥

-- Dumps

-- Why a dump is not written: an allocation failed, or the writer did.
abbrev pub SaveRefused : Refusal → Type 0
SaveRefused (Dump why) = StopsWriting why
SaveRefused why = ⊥

-- What the handle holds is as it was. Of what a file then holds nothing can be said.
abbrev pub Saves : {A : Type 0} → A → Ending → A → Type 0
Saves old (Ok given) new = new ≡ old
Saves old (Err why) new = SaveRefused why × (new ≡ old)

-- The node has joined a history, and its devices and frames have their bytes and dirty flags as
-- before. If the bytes read are known, they are a dump of the history. Or they are no dump, or were
-- not read: the fault says why, and nothing has changed. Or an allocation for the join failed: then
-- nothing has changed that a caller sees, and neither have the bytes and dirty flags.
abbrev pub Loads : Option (List ℕ) → OpenNode → Ending → OpenNode → Type 0
Loads bytes old (Ok given) new =
    ((h : HistoryView) × IsHistory h × IfSome bytes (λ text. IsDump text h)
    × Joins old.node h new.node) × KeepsBytes old.node.pool new.node.pool × SameDevices old new
Loads bytes old (Err (Node Memory)) new = SameOpen old new
Loads bytes old (Err (Dump why)) new = ((at : ℕ) × IfSome bytes (λ text. IsDumpRefused text at why))
    × (new ≡ old)
Loads bytes old (Err why) new = ⊥

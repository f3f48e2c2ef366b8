-- What each call of a visit does to what its open handle holds, and what it writes.
use Rattle.std.specs.Prelude.{◌≡◌, ℕ, List, map, length, Option, IfSome, Some, None, Result, Ok}
use Rattle.std.specs.Prelude.{Err, IsPermutation}
use Rattle.warm_stamps.specs.declared.PageId.{PageId}
use Rattle.warm_history.specs.Entry.{Entry}
use Rattle.warm_history.specs.Histories.{HistoryView, IsHistory, entries_of, history_of_entries_at}
use Rattle.warm_history.specs.Histories.{references_of}
use Rattle.warm_rank.specs.WarmUp.{IsWarmUp}
use Rattle.warm_dump.specs.Reading.{IsDump, IsDumpRefused}
use Rattle.warm_frames.specs.declared.message.Message.{Message}
use Rattle.warm_frames.specs.Encoding.{Encodes}
use Rattle.warm_frames.specs.Reading.{GivesReading, read_frame, reserved_by}
use Rattle.warm_gossip.specs.declared.fault.NodeFault.{NodeFault}
use Rattle.warm_gossip.specs.declared.fault.NodeFault.TheVariants.{Memory}
use Rattle.warm_visits.specs.VisitMessages.{final_message, first_message, resumed, without_message}
use Rattle.warm_visits.specs.Visits.{HasEntered, VisitState, absorb_visit, copy_of, give_visit}
use Rattle.warm_visits.specs.Visits.{kept_of, next_shard, receive_visit, result_of}
use Rattle.warm_c_base.specs.declared.status.Refusal.TheVariants.{Closed, Dump, Frame, Node}
use Rattle.warm_c_base.specs.declared.values.WarmPage.{WarmPage}
use Rattle.warm_c_base.specs.declared.values.WarmReference.{WarmReference}
use Rattle.warm_c_base.specs.Values.{c_page, reference_of, with_start}
use Rattle.warm_c_calls.specs.declared.message_limits.NodeLimits.{NodeLimits}
use Rattle.warm_c_calls.specs.declared.open_node.OpenNode.{OpenNode}
use Rattle.warm_c_calls.specs.declared.open_visit.OpenVisit.{OpenVisit}
use Rattle.warm_c_calls.specs.Calls.{BatchRefused, Ending, PutsFrame, SameDevices, SaveRefused}
use Rattle.warm_c_calls.specs.MessageLimits.{ExceedsLimits, KeepsLimits}

-- Beginning

-- The handle has begun this visit of its replica, in its shards.
abbrev pub BeginsVisit : (ℕ → ℕ → VisitState) → OpenVisit → OpenVisit → Type 0
BeginsVisit visit old new = new.visit ≡ visit old.visit.id old.visit.count

-- a batch is absorbed; or one of its references is of no replica, or else memory failed
abbrev pub BeginsAbsorb : List WarmReference → OpenVisit → Ending → OpenVisit → Type 0
BeginsAbsorb batch old (Ok given) new =
    BeginsVisit (λ id n. absorb_visit id n (map reference_of batch)) old new
BeginsAbsorb batch old (Err why) new = BatchRefused batch why × (new ≡ old)

-- this visit is begun; or memory failed, and the visit before is kept
abbrev pub BeginsOrKeeps : (ℕ → ℕ → VisitState) → OpenVisit → Ending → OpenVisit → Type 0
BeginsOrKeeps visit old (Ok given) new = BeginsVisit visit old new
BeginsOrKeeps visit old (Err (Node Memory)) new = new ≡ old
BeginsOrKeeps visit old (Err why) new = ⊥

-- A message is received, whose frame the bytes are, and which keeps the limits. Or the bytes are no
-- frame, or the message does not keep a limit, or memory failed; the visit before is then kept.
abbrev pub BeginsReceive : NodeLimits → List ℕ → OpenVisit → Ending → OpenVisit → Type 0
BeginsReceive limits bytes old (Ok given) new = (message : Message) × Encodes bytes message
    × KeepsLimits limits message × BeginsVisit (λ id n. receive_visit id n message) old new
BeginsReceive limits bytes old (Err (Frame fault)) new =
    GivesReading (Err fault) (read_frame bytes) (reserved_by bytes) × (new ≡ old)
BeginsReceive limits bytes old (Err (Node Memory)) new = new ≡ old
BeginsReceive limits bytes old (Err why) new = (message : Message) × Encodes bytes message
    × ExceedsLimits limits message why × (new ≡ old)

-- The entries of a history are taken in, in some order, at its horizon. The bytes are a dump of it,
-- if they are known. Or they show why they are none, or were not read; or memory failed; the visit
-- before is then kept.
abbrev pub BeginsLoad : Option (List ℕ) → OpenVisit → Ending → OpenVisit → Type 0
BeginsLoad bytes old (Ok given) new = (h : HistoryView) × IsHistory h
    × IfSome bytes (λ text. IsDump text h) × (es : List Entry) × IsPermutation (entries_of h) es
    × BeginsVisit
    (λ id n. give_visit id n (references_of (history_of_entries_at h.horizon es))) old new
BeginsLoad bytes old (Err (Node Memory)) new = new ≡ old
BeginsLoad bytes old (Err (Dump why)) new =
    ((at : ℕ) × IfSome bytes (λ text. IsDumpRefused text at why)) × (new ≡ old)
BeginsLoad bytes old (Err why) new = ⊥

-- Going on

-- no shard is wanted while a message waits to be handed out
abbrev pub unless_waits : Option Message → Option ℕ → Option ℕ
unless_waits None shard = shard
unless_waits (Some message) shard = None

-- the shard into which the visit is to be let next
abbrev pub wanted_shard : VisitState → Option ℕ
wanted_shard v = unless_waits (first_message v) (next_shard v)

-- the visit has run its next errand at the node; one that wants no shard has left it as it was
abbrev pub EntersIf : Option ℕ → OpenVisit → OpenNode → OpenVisit → OpenNode → Type 0
EntersIf None v node w node' = (w ≡ v) × (node' ≡ node)
EntersIf (Some shard) v node w node' = HasEntered v.visit node.node w.visit node'.node
    × SameDevices node node'

-- what a call ends with that returns this
abbrev pub ending_of : Result Unit NodeFault → Ending
ending_of (Ok given) = Ok tt
ending_of (Err why) = Err (Node why)

-- Whether a shard had no memory for its errand. That is then taken away: whoever lets the visit in
-- again goes on.
abbrev pub SaysResult : OpenVisit → Ending → OpenVisit → Type 0
SaysResult old ending new = (ending ≡ ending_of (result_of old.visit.stopped))
    × (new.visit ≡ resumed old.visit)

-- What it has made

-- the number, or the one before if there is none
abbrev pub number_or : ℕ → Option ℕ → ℕ
number_or before None = before
number_or before (Some n) = n

-- the earliest horizon is written that a raised shard has
abbrev pub SaysKept : ℕ → ℕ → OpenVisit → OpenVisit → Type 0
SaysKept before after old new = (after ≡ number_or before (kept_of old.visit.made)) × (new ≡ old)

-- the first message, or else the second
abbrev pub or_message : Option Message → Option Message → Option Message
or_message (Some message) other = Some message
or_message None other = other

-- what waits to be handed out: the first message, or what comes last
abbrev pub waiting_in : VisitState → Option Message
waiting_in v = or_message (first_message v) (final_message v)

-- Length 0 is written if no message waits. Else its frame is put into the buffer, and the visit is
-- without it; a refused call keeps it.
abbrev pub HandsOut : Option Message → List ℕ → ℕ → List ℕ → ℕ → OpenVisit → Ending → OpenVisit
    → Type 0
HandsOut None before len after len' old ending new = (ending ≡ Ok tt) × (after ≡ before)
    × (len' ≡ 0) × (new ≡ old)
HandsOut (Some message) before len after len' old (Ok given) new =
    PutsFrame message before len after len' (Ok given)
    × (new.visit ≡ without_message old.visit)
HandsOut (Some message) before len after len' old (Err why) new =
    PutsFrame message before len after len' (Err why) × (new ≡ old)

-- the same of what waits
abbrev pub HandsOutNext : List ℕ → ℕ → List ℕ → ℕ → OpenVisit → Ending → OpenVisit → Type 0
HandsOutNext before len after len' old ending new =
    HandsOut (waiting_in old.visit) before len after len' old ending new

-- the visit has copied nothing
abbrev pub HasNoCopy : OpenVisit → Type 0
HasNoCopy v = copy_of v.visit.made ≡ None

-- The hottest pages of the copy stand at the start of the buffer, and their number is given. Or
-- there is none, or an allocation failed, and nothing is written. The visit is as it was.
abbrev pub ListsCopy : List WarmPage → ℕ → List WarmPage → ℕ → OpenVisit → Ending → OpenVisit
    → Type 0
ListsCopy before count after number old (Ok given) new =
    (h : HistoryView) × (copy_of old.visit.made ≡ Some h)
    × (pages : List PageId) × IsWarmUp h (length before) pages
    × (after ≡ with_start (map c_page pages) before) × (number ≡ length pages) × (new ≡ old)
ListsCopy before count after number old (Err Closed) new = HasNoCopy old
    × (after ≡ before) × (number ≡ count) × (new ≡ old)
ListsCopy before count after number old (Err (Node Memory)) new =
    (after ≡ before) × (number ≡ count) × (new ≡ old)
ListsCopy before count after number old (Err why) new = ⊥

-- The visit is as it was. Of what a file then holds nothing can be said.
abbrev pub SavesCopy : OpenVisit → Ending → OpenVisit → Type 0
SavesCopy old (Ok given) new = (h : HistoryView) × (copy_of old.visit.made ≡ Some h)
    × (new ≡ old)
SavesCopy old (Err Closed) new = HasNoCopy old × (new ≡ old)
SavesCopy old (Err why) new = SaveRefused why × (new ≡ old)

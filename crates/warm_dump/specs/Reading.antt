-- What a reader makes of bytes.
use Rattle.std.specs.Prelude.{◌≡◌, ◌≢◌, ◌⊎◌, ℕ, ◌+◌, ◌<◌, List, [], ◌∷◌, ◌++◌, length, ⊤}
use Rattle.std.specs.List.{AllByRecursion, flat_map}
use Rattle.warm_history.specs.Entry.{Entry}
use Rattle.warm_history.specs.ReferenceSets.{ReferenceSet}
use Rattle.warm_history.specs.Histories.{HistoryView, entries_of, references_of_entries, history}
use Rattle.warm_frames.specs.declared.fault.FrameFault.{FrameFault}
use Rattle.warm_frames.specs.declared.fault.FrameFault.TheVariants as frame_faults
use Rattle.warm_frames.specs.declared.message.Message.{Message}
use Rattle.warm_frames.specs.declared.message.Message.TheVariants.{Entries, Digest, Want}
use Rattle.warm_frames.specs.Pieces.{EncodeAll, texts_of, Splits, Fails}
use Rattle.warm_digest.specs.BucketDigests.{digests_of}
use Rattle.warm_dump.specs.declared.fault.DumpFault.{DumpFault}
use Rattle.warm_dump.specs.declared.fault.DumpFault.TheVariants.{Frame, CutShort, DigestsDiffer}
use Rattle.warm_dump.specs.declared.fault.DumpFault.TheVariants.{HorizonsDiffer, MoreFollows}
use Rattle.warm_dump.specs.declared.fault.DumpFault.TheVariants.{ReadFault, WriteFault}

-- ---- the messages of a dump

-- a message of entries, with this horizon
abbrev pub IsEntriesAt : ℕ → Message → Type 0
IsEntriesAt horizon (Entries sender own es) = own ≡ horizon
IsEntriesAt horizon (Digest sender own digests) = ⊥
IsEntriesAt horizon (Want sender own request) = ⊥

-- messages of entries, all with this horizon
abbrev pub AreEntriesAt : ℕ → List Message → Type 0
AreEntriesAt horizon messages = AllByRecursion (IsEntriesAt horizon) messages

-- the entries that a message brings
abbrev pub brought : Message → List Entry
brought (Entries sender own es) = es
brought (Digest sender own digests) = []
brought (Want sender own request) = []

-- the entries that messages bring, message by message
abbrev pub entries_brought : List Message → List Entry
entries_brought messages = flat_map brought messages

-- the references that messages bring, of which those before the horizon are forgotten
abbrev pub references_in : ℕ → List Message → ReferenceSet
references_in horizon messages =
    record { horizon = horizon; given = references_of_entries (entries_brought messages) }

-- the history, at a horizon, of all references that messages bring
abbrev pub history_of_messages : ℕ → List Message → HistoryView
history_of_messages horizon messages = history (references_in horizon messages)

-- ---- texts

-- the text begins with the frames of these messages, and then comes the rest
pub record Begins (text : List ℕ) (messages : List Message) (rest : List ℕ) : Type 0 where
  pub texts : List (List ℕ)
  pub whole : text ≡ texts_of texts ++ rest
  pub each : EncodeAll texts messages

-- The text is a dump of the history: the frames of messages of entries, and then that of the
-- digests, all with the history's horizon, and nothing else. The messages give the history, and the
-- digests are its own. Any replica may have sent each message.
pub record IsDump (text : List ℕ) (h : HistoryView) : Type 0 where
  pub messages : List Message
  pub sender : ℕ
  pub digests : List (List ℕ)
  pub whole : Begins text (messages ++ Digest sender h.horizon digests ∷ []) []
  pub entries : AreEntriesAt h.horizon messages
  pub given : h ≡ history_of_messages h.horizon messages
  pub same_digests : digests ≡ digests_of (entries_of h)

-- the last message of the text has these digests
abbrev pub EndsWithDigests : List ℕ → List (List ℕ) → Type 0
EndsWithDigests text digests = (messages : List Message) × (sender horizon : ℕ)
    × Begins text (messages ++ Digest sender horizon digests ∷ []) []

-- ---- why a text is no dump, and where

-- the text begins with the frames of these messages, and they end behind this number of bytes
abbrev pub EndsAt : List ℕ → List Message → ℕ → Type 0
EndsAt text messages at = (rest : List ℕ) × Begins text messages rest
    × (at + length rest ≡ length text)

-- behind messages of entries, which end here, come bytes that show a fault of a frame
abbrev pub ShowsFrameFault : List ℕ → ℕ → FrameFault → Type 0
ShowsFrameFault text at fault = (horizon : ℕ) × (messages : List Message)
    × AreEntriesAt horizon messages × EndsAt text messages at × Fails text messages fault

-- behind messages of entries, which end here, comes a request, which no dump has
abbrev pub HasRequest : List ℕ → ℕ → Type 0
HasRequest text at = (horizon : ℕ) × (messages : List Message) × (sender own request : ℕ)
    × (rest : List ℕ)
    × AreEntriesAt horizon messages × EndsAt text messages at
    × Begins text (messages ++ Want sender own request ∷ []) rest

-- the digests never come: the text ends behind messages of entries, which end here, or inside the
-- next frame
abbrev pub IsCutShort : List ℕ → ℕ → Type 0
IsCutShort text at = (horizon : ℕ) × (messages : List Message) × (rest : List ℕ)
    × AreEntriesAt horizon messages × EndsAt text messages at × Splits text messages rest

-- a message of entries or of digests, with this horizon
abbrev pub IsPartAt : ℕ → Message → Type 0
IsPartAt horizon (Entries sender own es) = own ≡ horizon
IsPartAt horizon (Digest sender own digests) = own ≡ horizon
IsPartAt horizon (Want sender own request) = ⊥

-- behind messages of entries with one horizon, one at least, which end here, comes a message of
-- entries or of digests with another
abbrev pub HasTwoHorizons : List ℕ → ℕ → Type 0
HasTwoHorizons text at = (horizon other : ℕ) × (messages : List Message) × (message : Message)
    × (rest : List ℕ) × (0 < length messages)
    × AreEntriesAt horizon messages × IsPartAt other message × (other ≢ horizon)
    × EndsAt text messages at × Begins text (messages ++ message ∷ []) rest

-- behind messages of entries, which end here, comes a message of digests that are not those of the
-- history of the messages
abbrev pub HasOtherDigests : List ℕ → ℕ → Type 0
HasOtherDigests text at = (horizon : ℕ) × (messages : List Message) × (sender : ℕ)
    × (digests : List (List ℕ)) × (rest : List ℕ)
    × AreEntriesAt horizon messages
    × (digests ≢ digests_of (entries_of (history_of_messages horizon messages)))
    × EndsAt text messages at × Begins text (messages ++ Digest sender horizon digests ∷ []) rest

-- behind a dump, which ends here, comes a byte at least
abbrev pub HasMore : List ℕ → ℕ → Type 0
HasMore text at = (dump more : List ℕ) × (h : HistoryView) × (text ≡ dump ++ more)
    × (0 < length more) × (at ≡ length dump) × IsDump dump h

-- Why a text is refused, and behind how many bytes of whole frames. A failed allocation and a
-- failed read say nothing of the text. A reader answers no WriteFault.
abbrev pub IsDumpRefused : List ℕ → ℕ → DumpFault → Type 0
IsDumpRefused text at (Frame frame_faults.Memory) = ⊤
IsDumpRefused text at (Frame frame_faults.BadKind) = ShowsFrameFault text at frame_faults.BadKind
    ⊎ HasRequest text at
IsDumpRefused text at (Frame fault) = ShowsFrameFault text at fault
IsDumpRefused text at CutShort = IsCutShort text at
IsDumpRefused text at DigestsDiffer = HasOtherDigests text at
IsDumpRefused text at HorizonsDiffer = HasTwoHorizons text at
IsDumpRefused text at MoreFollows = HasMore text at
IsDumpRefused text at ReadFault = ⊤
IsDumpRefused text at WriteFault = ⊥

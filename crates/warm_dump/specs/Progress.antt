-- How far a reader has got in a dump, and what a message adds.
use Rattle.std.specs.Prelude.{◌≡◌, ◌≢◌, ◌⊎◌, ℕ, ◌+◌, ◌<◌, true, false, List, [], ◌++◌, length, ⊤}
use Rattle.std.specs.Prelude.{Option, Some, None}
use Rattle.warm_history.specs.ReferenceSets.{ReferenceSet, set_of_list, with_horizon}
use Rattle.warm_history.specs.Histories.{entries_of, history_of_entries_at, references_of}
use Rattle.warm_history.specs.Histories.{StandsFor, TakesIn}
use Rattle.warm_history.specs.Losses.{raised}
use Rattle.warm_frames.specs.declared.fault.FrameFault.TheVariants.{Memory, BadKind}
use Rattle.warm_frames.specs.declared.message.Message.{Message}
use Rattle.warm_frames.specs.declared.message.Message.TheVariants.{Entries, Digest, Want}
use Rattle.warm_frames.specs.Pieces.{Inside, IsIncomplete}
use Rattle.warm_digest.specs.BucketDigests.{digests_of}
use Rattle.warm_dump.specs.declared.fault.DumpFault.{DumpFault}
use Rattle.warm_dump.specs.declared.fault.DumpFault.TheVariants.{Frame, DigestsDiffer}
use Rattle.warm_dump.specs.declared.fault.DumpFault.TheVariants.{HorizonsDiffer}
use Rattle.warm_dump.specs.declared.reading.DumpReader.{DumpReader}
use Rattle.warm_dump.specs.Reading.{AreEntriesAt, references_in, Begins, IsDump, IsDumpRefused}

-- the horizon is that of the messages before, if there was one
abbrev pub Agrees : Option ℕ → ℕ → Type 0
Agrees None horizon = ⊤
Agrees (Some known) horizon = known ≡ horizon

-- the messages of entries that came have this horizon, or none came
abbrev pub AreAt : Option ℕ → List Message → Type 0
AreAt None messages = messages ≡ []
AreAt (Some horizon) messages = (0 < length messages) × AreEntriesAt horizon messages

-- the references that messages with one horizon bring; none if no message came
abbrev pub references_brought : Option ℕ → List Message → ReferenceSet
references_brought None messages = set_of_list []
references_brought (Some horizon) messages = references_in horizon messages

-- The text is the frames of messages of entries, and then a part of the next frame, which the
-- decoder holds. The history is that of the messages. The bytes read are counted, and the next
-- frame starts where the whole frames end.
pub record HasBegun (text : List ℕ) (g : DumpReader) : Type 0 where
  pub messages : List Message
  pub begun : List ℕ
  pub front : Begins text messages begun
  pub part : IsIncomplete begun
  pub held : g.decoder ≡ Inside begun
  pub horizon : AreAt g.horizon messages
  pub stands : StandsFor g.history (references_brought g.horizon messages)
  pub bytes_read : g.bytes_read ≡ length text
  pub frame_start : g.frame_start + length begun ≡ length text

-- the text is what a reader got through: a dump, if the digests came, or the beginning of one
abbrev pub HasRead : List ℕ → DumpReader → Type 0
HasRead text g = ((g.complete ≡ true) × (g.frame_start ≡ length text) × IsDump text g.history)
    ⊎ ((g.complete ≡ false) × HasBegun text g)

-- what a message makes of the reader
abbrev pub TakesMessage : DumpReader → Message → DumpReader → Type 0
TakesMessage old (Entries sender horizon es) new = Agrees old.horizon horizon
    × (new.horizon ≡ Some horizon)
    × TakesIn old.history (references_of (history_of_entries_at horizon es)) new.history
    × (new.complete ≡ false)
TakesMessage old (Digest sender horizon digests) new = Agrees old.horizon horizon
    × ((S : ReferenceSet) → StandsFor old.history S
    → StandsFor new.history (with_horizon horizon S))
    × (digests ≡ digests_of (entries_of new.history)) × (new.complete ≡ true)
TakesMessage old (Want sender horizon request) new = ⊥

-- why a message is not taken
abbrev pub Rejects : DumpReader → Message → DumpFault → Type 0
Rejects old (Entries sender horizon es) why = (why ≡ Frame Memory)
    ⊎ ((why ≡ HorizonsDiffer) × (Agrees old.horizon horizon → ⊥))
Rejects old (Digest sender horizon digests) why = (why ≡ Frame Memory)
    ⊎ ((why ≡ HorizonsDiffer) × (Agrees old.horizon horizon → ⊥))
    ⊎ ((why ≡ DigestsDiffer) × Agrees old.horizon horizon
    × (digests ≢ digests_of (entries_of (raised horizon old.history))))
Rejects old (Want sender horizon request) why = why ≡ Frame BadKind

-- the text is refused, whatever follows it
abbrev pub IsRefusedForGood : List ℕ → ℕ → DumpFault → Type 0
IsRefusedForGood text at why = (later : List ℕ) → IsDumpRefused (text ++ later) at why

-- What a peer sends of a bucket since a time, in portions.
use Rattle.std.specs.Prelude.{ℕ, ◌<◌, length, Option}
use Rattle.warm_stamps.specs.declared.PageId.{PageId}
use Rattle.warm_stamps.specs.declared.Reference.{Reference}
use Rattle.warm_history.specs.Histories.{HistoryView, entries_of, history, references_of}
use Rattle.warm_history.specs.ReferenceSets.{references}
use Rattle.warm_history.specs.References.{IsIn}
use Rattle.warm_history.specs.Since.{carried_since, entries_since}
use Rattle.warm_frames.specs.declared.layout.TheConstants.{MAX_ENTRIES}
use Rattle.warm_frames.specs.declared.message.Message.{Message}
use Rattle.warm_frames.specs.declared.message.Message.TheVariants.{Entries}
use Rattle.warm_peer.specs.Answers.{refs_in}

-- the message of the first entries of the bucket, up to MAX_ENTRIES, of those whose page comes
-- after the given one and whose latest stamp is not before the time
abbrev pub sent_since : ℕ → HistoryView → ℕ → ℕ → Option PageId → Message
sent_since id h bucket since after = Entries id h.horizon
    (entries_of (history (carried_since (references_of h) bucket since after MAX_ENTRIES)))

-- the bucket has more entries since the time, of pages after the given one, than one message holds
abbrev pub HasMoreSince : HistoryView → ℕ → ℕ → Option PageId → Type 0
HasMoreSince h bucket since after =
    MAX_ENTRIES < length (entries_since bucket since after (entries_of h))

-- the message brings references that the history holds, and no other
abbrev pub BringsHeld : HistoryView → Message → Type 0
BringsHeld h message = (r : Reference) → IsIn r (references (refs_in message))
    → IsIn r (references (references_of h))

-- The messages that a peer sends, and its answers to a message.
use Rattle.std.specs.Prelude.{◌≡◌, ◌^◌, ◌≢◌, ◌↔◌, ℕ, ◌==◌, ◌<◌, List, [], ◌∷◌, ◌++◌, Option}
use Rattle.std.specs.Prelude.{if◌then◌else◌}
use Rattle.std.specs.List.{flat_map}
use Rattle.std.specs.Int.{bit_at}
use Rattle.warm_stamps.specs.declared.PageId.{PageId}
use Rattle.warm_stamps.specs.declared.TheConstants.{BUCKETS}
use Rattle.warm_stamps.specs.Buckets.{buckets_in}
use Rattle.warm_history.specs.ReferenceSets.{ReferenceSet, ◌∪◌}
use Rattle.warm_history.specs.Histories.{HistoryView, entries_of, history_of_entries_at, history}
use Rattle.warm_history.specs.Histories.{references_of}
use Rattle.warm_history.specs.Carried.{carried}
use Rattle.warm_frames.specs.Chunks.{bucket_messages}
use Rattle.warm_frames.specs.declared.layout.TheConstants.{MAX_ENTRIES}
use Rattle.warm_frames.specs.declared.message.Message.{Message}
use Rattle.warm_frames.specs.declared.message.Message.TheVariants.{Entries, Digest, Want}
use Rattle.warm_frames.specs.Digests.{digest_at}
use Rattle.warm_digest.specs.BucketDigests.{digests_of}

-- the requested buckets, in rising order: a proof says where it computes them
unfoldable pub requested_buckets : ℕ → List ℕ
requested_buckets request = buckets_in request

-- the requested buckets of the history, in messages
abbrev pub requested_messages : ℕ → HistoryView → ℕ → List Message
requested_messages id h request = flat_map (bucket_messages id h) (requested_buckets request)

-- the set of the buckets whose digests differ from the history's
abbrev pub IsDiffering : List (List ℕ) → HistoryView → ℕ → Type 0
IsDiffering digests h request = (bucket : ℕ) → bucket < BUCKETS
    → (bit_at request bucket ≡ 1)
    ↔ (digest_at digests bucket ≢ digest_at (digests_of (entries_of h)) bucket)

-- The answer to digests: the entries of the buckets that differ, and then a request for these;
-- nothing if none differs.
abbrev pub AnswersDigests : ℕ → HistoryView → List (List ℕ) → List Message → Type 0
AnswersDigests id h digests messages = (request : ℕ) × (request < 2 ^ 64)
    × IsDiffering digests h request
    × (messages ≡ if request == 0 then []
    else requested_messages id h request ++ Want id h.horizon request ∷ [])

-- the references that a message brings, and its horizon
abbrev pub refs_in : Message → ReferenceSet
refs_in (Entries sender horizon entries) = references_of (history_of_entries_at horizon entries)
refs_in (Digest sender horizon digests) = references_of (history_of_entries_at horizon [])
refs_in (Want sender horizon request) = references_of (history_of_entries_at horizon [])

-- the history after a message was taken
abbrev pub history_after : HistoryView → Message → HistoryView
history_after h message = history (references_of h ∪ refs_in message)

-- The answer of a replica of this id and history to a message, at the greater horizon: nothing to
-- entries; to a request, its entries of these buckets.
abbrev pub IsAnswer : ℕ → HistoryView → Message → List Message → Type 0
IsAnswer id h (Entries sender horizon entries) messages = messages ≡ []
IsAnswer id h (Want sender horizon request) messages =
    messages ≡ requested_messages id (history_after h (Want sender horizon request)) request
IsAnswer id h (Digest sender horizon digests) messages =
    AnswersDigests id (history_after h (Digest sender horizon digests)) digests messages

-- the message of the first entries of the bucket whose page comes after the given one, up to
-- MAX_ENTRIES
abbrev pub sent : ℕ → HistoryView → ℕ → Option PageId → Message
sent id h bucket after =
    Entries id h.horizon (entries_of (history (carried (references_of h) bucket after MAX_ENTRIES)))

-- The answer of a replica to a message, as the references that the answering messages bring.
use Rattle.std.specs.Prelude.{◌≡◌, ◌^◌, ℕ, ◌<◌, ◌==◌, List, [], ◌∷◌, ◌++◌, Option, None}
use Rattle.std.specs.Prelude.{if◌then◌else◌}
use Rattle.std.specs.List.{flat_map}
use Rattle.warm_stamps.specs.declared.PageId.{PageId}
use Rattle.warm_history.specs.Entry.{Entry}
use Rattle.warm_history.specs.ReferenceSets.{ReferenceSet, ◌∪◌}
use Rattle.warm_history.specs.Histories.{entries_of, history}
use Rattle.warm_history.specs.Carried.{bucket_entries, carried}
use Rattle.warm_frames.specs.declared.layout.TheConstants.{MAX_ENTRIES}
use Rattle.warm_frames.specs.Chunks.{chunks}
use Rattle.warm_peer.specs.Answers.{requested_buckets, IsDiffering}
use Rattle.warm_peer.specs.Chunks.{last_page}
use Rattle.warm_world.specs.States.{MessageRecord, References, Digests, Request}

-- the chunks of a bucket, one after the other: each brings all references of S to its pages
abbrev pub records_of : ℕ → ReferenceSet → ℕ → Option PageId → List (List Entry)
    → List MessageRecord
records_of i S bucket after [] = []
records_of i S bucket after (chunk ∷ others) =
    References i (carried S bucket after MAX_ENTRIES)
    ∷ records_of i S bucket (last_page chunk) others

-- what a replica that S reached sends of a bucket, in messages that are all full but the last
abbrev pub bucket_records : ℕ → ReferenceSet → ℕ → List MessageRecord
bucket_records i S bucket =
    records_of i S bucket None (chunks MAX_ENTRIES (bucket_entries bucket (entries_of (history S))))

-- what a replica that S reached sends of the requested buckets, one after the other, in messages
-- that are all full but the last of each bucket
abbrev pub requested_records : ℕ → ReferenceSet → ℕ → List MessageRecord
requested_records i S request = flat_map (bucket_records i S) (requested_buckets request)

-- the references that a message brings, with its sender's horizon
abbrev pub refs_of : MessageRecord → ReferenceSet
refs_of (References sender refs) = refs
refs_of (Digests sender horizon digests) = record { horizon = horizon; given = [] }
refs_of (Request sender horizon request) = record { horizon = horizon; given = [] }

-- what has reached a replica after it received a message: its horizon is then the greater one
abbrev pub reach_after : ReferenceSet → MessageRecord → ReferenceSet
reach_after S kept = S ∪ refs_of kept

-- The answer of replica i to a message. S is what has reached it after it received the message:
-- nothing to references; to a request its references of these buckets; to digests those of the
-- buckets whose digests differ, and then a request for these.
abbrev pub AreAnswers : ℕ → ReferenceSet → MessageRecord → List MessageRecord → Type 0
AreAnswers i S (References sender refs) added = added ≡ []
AreAnswers i S (Request sender horizon request) added = added ≡ requested_records i S request
AreAnswers i S (Digests sender horizon digests) added = (request : ℕ) × (request < 2 ^ 64)
    × IsDiffering digests (history S) request
    × (added ≡ if request == 0 then []
    else requested_records i S request ++ Request i S.horizon request ∷ [])

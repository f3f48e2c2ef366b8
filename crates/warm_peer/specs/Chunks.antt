-- The chunks in which a bucket is answered, compared with what Send gives of it.
use Rattle.std.specs.Prelude.{◌≡◌, ℕ, ◌<◌, List, [], ◌∷◌, length, Option, Some, None}
use Rattle.warm_stamps.specs.declared.PageId.{PageId}
use Rattle.warm_history.specs.Entry.{Entry}
use Rattle.warm_history.specs.ReferenceSets.{ReferenceSet}
use Rattle.warm_history.specs.Histories.{entries_of, history}
use Rattle.warm_history.specs.Carried.{bucket_entries, carried}
use Rattle.warm_frames.specs.Chunks.{chunks}

-- the page of the last of the entries, if there are any
abbrev pub last_page : List Entry → Option PageId
last_page [] = None
last_page (e ∷ []) = Some e.page
last_page (e ∷ f ∷ es) = last_page (f ∷ es)

-- what Send gives of the bucket: the history of the references of S to up to limit pages after the
-- given one
abbrev pub chunk_after : ReferenceSet → ℕ → ℕ → Option PageId → List Entry
chunk_after S bucket limit after = entries_of (history (carried S bucket after limit))

-- each chunk is what is sent after the last page of the one before, and after the last chunk no
-- page is left
abbrev pub AreAllChunks : ReferenceSet → ℕ → ℕ → Option PageId → List (List Entry) → Type 0
AreAllChunks S bucket limit after [] = chunk_after S bucket limit after ≡ []
AreAllChunks S bucket limit after (chunk ∷ others) =
    (chunk ≡ chunk_after S bucket limit after) × (0 < length chunk)
    × AreAllChunks S bucket limit (last_page chunk) others

-- the chunks of a bucket are what Send gives of it, one after the other, from the first page on
abbrev pub ChunksInTurn : Type 0
ChunksInTurn = (S : ReferenceSet) (bucket limit : ℕ) → 0 < limit
    → AreAllChunks S bucket limit None
    (chunks limit (bucket_entries bucket (entries_of (history S))))

-- Lists in chunks, and the messages of entries that are made of them.
use Rattle.std.specs.Prelude.{ℕ, zero, suc, List, [], ◌∷◌, length, take, drop, map}
use Rattle.warm_history.specs.Entry.{Entry}
use Rattle.warm_history.specs.Histories.{HistoryView, entries_of}
use Rattle.warm_history.specs.Carried.{bucket_entries}
use Rattle.warm_frames.specs.declared.layout.TheConstants.{MAX_ENTRIES}
use Rattle.warm_frames.specs.declared.message.Message.{Message}
use Rattle.warm_frames.specs.declared.message.Message.TheVariants.{Entries}

-- the list in chunks of `size` items, of which the last may be shorter; at most n chunks
abbrev pub chunks_of : {A : Type 0} → ℕ → ℕ → List A → List (List A)
chunks_of size zero xs = []
chunks_of size (suc n) [] = []
chunks_of size (suc n) (x ∷ xs) = take size (x ∷ xs) ∷ chunks_of size n (drop size (x ∷ xs))

-- the whole list in chunks of `size` items, of which the last may be shorter
abbrev pub chunks : {A : Type 0} → ℕ → List A → List (List A)
chunks size xs = chunks_of size (length xs) xs

-- the entries in messages of MAX_ENTRIES entries each but the last, each with this sender and
-- horizon; none if there are no entries
abbrev pub entry_messages : ℕ → ℕ → List Entry → List Message
entry_messages sender horizon es =
    map (λ chunk. Entries sender horizon chunk) (chunks MAX_ENTRIES es)

-- a bucket of the history in messages; none if it is empty
abbrev pub bucket_messages : ℕ → HistoryView → ℕ → List Message
bucket_messages sender h bucket =
    entry_messages sender h.horizon (bucket_entries bucket (entries_of h))

-- What a history would lose at a horizon.
use Rattle.std.specs.Prelude.{ℕ, List}
use Rattle.warm_maps.specs.declared.hist.Entry.{Entry}
use Rattle.warm_history.specs.Carried.{bucket_entries}
use Rattle.warm_history.specs.Changes.{ChangesIn, SameInBucket, MarksChanged}
use Rattle.warm_history.specs.Histories.{HistoryView, entries_of, history, references_of}
use Rattle.warm_history.specs.ReferenceSets.{with_horizon}

-- the history raised to the horizon, or unchanged if its own is not less
abbrev pub raised : ℕ → HistoryView → HistoryView
raised horizon h = history (with_horizon horizon (references_of h))

-- the entries that a bucket would have if the history were raised to the horizon
abbrev pub bucket_at_horizon : ℕ → ℕ → HistoryView → List Entry
bucket_at_horizon horizon bucket h = bucket_entries bucket (entries_of (raised horizon h))

-- the entries of the bucket would change if the history were raised to the horizon
abbrev pub LosesIn : ℕ → ℕ → HistoryView → Type 0
LosesIn horizon bucket h = ChangesIn bucket (entries_of h) (entries_of (raised horizon h))

-- the entries of the bucket would stay the same if the history were raised to the horizon
abbrev pub KeepsIn : ℕ → ℕ → HistoryView → Type 0
KeepsIn horizon bucket h = SameInBucket bucket (entries_of h) (entries_of (raised horizon h))

-- a bucket is in the set exactly if its entries would change if the history were raised to the
-- horizon
abbrev pub MarksLosing : ℕ → HistoryView → ℕ → Type 0
MarksLosing horizon h buckets = MarksChanged (entries_of h) (entries_of (raised horizon h)) buckets

-- What a message and a history say of the pages of one shard.
use Rattle.std.specs.Prelude.{ℕ}
use Rattle.warm_history.specs.Histories.{HistoryView, entries_of, history_of_entries_at}
use Rattle.warm_frames.specs.declared.message.Message.{Message}
use Rattle.warm_frames.specs.declared.message.Message.TheVariants.{Entries, Digest, Want}
use Rattle.warm_frames.specs.Limits.{entries_in, horizon_in}
use Rattle.warm_visits.specs.Parts.{part_of_entries}

-- the replica that sent the message
abbrev pub sender_in : Message → ℕ
sender_in (Entries sender horizon entries) = sender
sender_in (Digest sender horizon digests) = sender
sender_in (Want sender horizon request) = sender

-- what a message brings to the shard: its horizon, and the entries of pages of the shard
abbrev pub part_of_message : ℕ → ℕ → Message → Message
part_of_message shards shard message =
    Entries (sender_in message) (horizon_in message)
    (part_of_entries shards shard (entries_in message))

-- what a history says of the pages of the shard
abbrev pub part_of_history : ℕ → ℕ → HistoryView → HistoryView
part_of_history shards shard h =
    history_of_entries_at h.horizon (part_of_entries shards shard (entries_of h))

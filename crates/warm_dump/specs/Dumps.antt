-- A dump, as it is written: a history as bytes.
use Rattle.std.specs.Prelude.{ℕ, List, ◌++◌}
use Rattle.std.specs.List.{flat_map, range_with_len}
use Rattle.warm_stamps.specs.declared.TheConstants.{BUCKETS}
use Rattle.warm_history.specs.Histories.{HistoryView, entries_of}
use Rattle.warm_frames.specs.declared.message.Message.{Message}
use Rattle.warm_frames.specs.declared.message.Message.TheVariants.{Digest}
use Rattle.warm_frames.specs.Chunks.{bucket_messages}
use Rattle.warm_frames.specs.Encoding.{encoding}
use Rattle.warm_digest.specs.BucketDigests.{digests_of}

-- the messages of all entries, bucket by bucket
abbrev pub history_messages : ℕ → HistoryView → List Message
history_messages sender h = flat_map (bucket_messages sender h) (range_with_len 0 BUCKETS)

-- the message of the digests of all buckets, which ends a dump
abbrev pub last_message : ℕ → HistoryView → Message
last_message sender h = Digest sender h.horizon (digests_of (entries_of h))

-- the frames of messages, one after the other
abbrev pub text_of : List Message → List ℕ
text_of messages = flat_map encoding messages

-- the dump of a history, with this sender
abbrev pub dump_of : ℕ → HistoryView → List ℕ
dump_of sender h = text_of (history_messages sender h) ++ encoding (last_message sender h)

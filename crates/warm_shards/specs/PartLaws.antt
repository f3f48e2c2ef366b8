-- Laws of parts: if each shard has had its part, all shards together have had the whole. They hold
-- of whatever nodes there are, in whatever order the shards were called.
use Rattle.std.specs.Prelude.{◌≡◌, ℕ, ◌+◌, ◌<◌, List, [], length, slice_set}
use Rattle.warm_stamps.specs.declared.Reference.{Reference}
use Rattle.warm_stamps.specs.declared.TheConstants.{BUCKETS}
use Rattle.warm_history.specs.ReferenceSets.{ReferenceSet, set_of_list, ◌∪◌}
use Rattle.warm_history.specs.Histories.{HistoryView, entries_of, history, history_of_entries, join}
use Rattle.warm_history.specs.Histories.{references_of}
use Rattle.warm_digest.specs.BucketDigests.{digests_of}
use Rattle.warm_frames.specs.declared.message.Message.{Message}
use Rattle.warm_gossip.specs.declared.call.Call.TheVariants.{Absorb, Receive}
use Rattle.warm_gossip.specs.declared.call.Reply.TheVariants.{Answers, Done}
use Rattle.warm_peer.specs.Answers.{history_after}
use Rattle.warm_gossip.specs.Clauses.{Goes, Joins}
use Rattle.warm_gossip.specs.State.{NodeState}
use Rattle.warm_visits.specs.Digests.{FillsShard}
use Rattle.warm_shards.specs.Parts.{part_of_history, part_of_message}
use Rattle.warm_visits.specs.Parts.{part_of_batch}
use Rattle.warm_shards.specs.Shards.{AreShards, shard_at, whole}
use Rattle.warm_visits.specs.ShardNumbers.{IsShardCount}

-- if one shard has taken references in, all together have, whatever the others hold
abbrev pub OneTakesIn : Type 0
OneTakesIn = (shards : List NodeState) (i : ℕ) (S : ReferenceSet) (n : NodeState)
    → i < length shards → n.history ≡ history (references_of (shard_at shards i).history ∪ S)
    → whole (slice_set shards i n) ≡ history (references_of (whole shards) ∪ S)

-- there are as many nodes as there can be shards, and each has gone to the new one in its place as
-- `goes` says
pub record EachGoes (goes : ℕ → NodeState → NodeState → Type 0) (old new : List NodeState)
    : Type 0 where
  pub count : IsShardCount (length old)
  pub long : length new ≡ length old
  pub each : (i : ℕ) → i < length old → goes i (shard_at old i) (shard_at new i)

-- if each has absorbed its part of a batch, all together have absorbed the batch
abbrev pub BatchIsOfParts : Type 0
BatchIsOfParts = (batch : List Reference) (old new : List NodeState)
    → EachGoes (λ i n m. Goes n (Absorb (part_of_batch (length old) i batch)) Done m) old new
    → whole new ≡ history (references_of (whole old) ∪ set_of_list batch)

-- if each has received what a message brings to it, all together have received the message
abbrev pub MessageIsOfParts : Type 0
MessageIsOfParts = (message : Message) (old new : List NodeState)
    → EachGoes (λ i n m. Goes n (Receive (part_of_message (length old) i message)) (Answers []) m)
    old new
    → whole new ≡ history_after (whole old) message

-- if each has joined what a history says of its pages, all together have joined the history
abbrev pub HistoryIsOfParts : Type 0
HistoryIsOfParts = (h : HistoryView) (old new : List NodeState)
    → EachGoes (λ i n m. Joins n (part_of_history (length old) i h) m) old new
    → whole new ≡ join (whole old) h

-- an empty history that joins that of each shard, one after the other, is that of all
abbrev pub GatheredIsWhole : Type 0
GatheredIsWhole = (shards : List NodeState) (made : ℕ → HistoryView)
    → made 0 ≡ history_of_entries []
    → ((i : ℕ) → i < length shards → made (i + 1) ≡ join (made i) (shard_at shards i).history)
    → made (length shards) ≡ whole shards

-- a table in which each shard fills the digests of its buckets has then those of all
abbrev pub DigestsAreGathered : Type 0
DigestsAreGathered = (shards : List NodeState) (table : ℕ → List (List ℕ)) → AreShards shards
    → length (table 0) ≡ BUCKETS
    → ((i : ℕ) → i < length shards → FillsShard (length shards) i (table i)
    (digests_of (entries_of (shard_at shards i).history)) (table (i + 1)))
    → table (length shards) ≡ digests_of (entries_of (whole shards))

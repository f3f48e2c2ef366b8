-- The laws of shards: what each shard knows, given what all of them together stand for.
use Rattle.std.specs.Prelude.{◌≡◌, ◌≢◌, ◌⊎◌, ℕ, ◌<◌, ◌%◌, List, length}
use Rattle.std.specs.List.{All}
use Rattle.warm_stamps.specs.declared.PageId.{PageId}
use Rattle.warm_stamps.specs.declared.TheConstants.{BUCKETS}
use Rattle.warm_history.specs.ReferenceSets.{ReferenceSet, ◌∪◌}
use Rattle.warm_history.specs.Histories.{StandsFor, entries_of}
use Rattle.warm_frames.specs.Digests.{digest_at}
use Rattle.warm_frames.specs.declared.message.Message.TheVariants.{Entries}
use Rattle.warm_digest.specs.BucketDigests.{digests_of}
use Rattle.warm_rank.specs.Laws.{IsFarthest}
use Rattle.warm_pool.specs.View.{unfixed_pages, view_of}
use Rattle.warm_gossip.specs.declared.call.Call.{Call}
use Rattle.warm_gossip.specs.declared.call.Call.TheVariants.{Absorb, Pin, Receive, Restart}
use Rattle.warm_gossip.specs.declared.call.Reply.{Reply}
use Rattle.warm_gossip.specs.Given.{given_by_call}
use Rattle.warm_gossip.specs.State.{NodeState, NodeView, node_view}
use Rattle.warm_gossip.specs.Step.{IsFailed, OnPool, Step}
use Rattle.warm_gossip.specs.Victims.{IsEvicted}
use Rattle.warm_shards.specs.Shards.{AreShards, HoldsPagesOf, shard_at}
use Rattle.warm_visits.specs.ShardNumbers.{of_first_shards, of_shard}
use Rattle.warm_shards.specs.Shards.{whole}
use Rattle.warm_visits.specs.ShardNumbers.{shard_of}
use Rattle.warm_shards.specs.Clauses.{HasPart, TakesInFirst, Together}

-- The headline: whatever all shards together stand for, they then stand for that with what the call
-- gave, as one node does.
abbrev pub WholeIsOfGiven : Type 0
WholeIsOfGiven = (S : ReferenceSet) (old new : List NodeState) (call : Call) (reply : Reply)
    → StandsFor (whole old) S → Together old call reply new
    → StandsFor (whole new) (given_by_call S call reply)

-- after a refusal that leaves some references taken in, all shards together stand for these too
abbrev pub FirstAreGiven : Type 0
FirstAreGiven = (S T : ReferenceSet) (old new : List NodeState) → StandsFor (whole old) S
    → TakesInFirst old T new
    → (k : ℕ) × (k < length old) × ((k ≡ 0) ⊎ HasPart (length old) k T)
    × StandsFor (whole new) (S ∪ of_first_shards (length old) k T)

-- each shard stands for the references to its pages, and has the digests of its buckets
pub record ShardStands (S : ReferenceSet) (shards : List NodeState) (i : ℕ) : Type 0 where
  pub stands : StandsFor (shard_at shards i).history (of_shard (length shards) i S)
  pub digests : (bucket : ℕ) → bucket < BUCKETS → bucket % length shards ≡ i
      → digest_at (digests_of (entries_of (shard_at shards i).history)) bucket
      ≡ digest_at (digests_of (entries_of (whole shards))) bucket

-- each shard stands for its part of the references for which all together stand, and has the
-- digests of its buckets
abbrev pub ShardsStand : Type 0
ShardsStand = (S : ReferenceSet) (shards : List NodeState) (i : ℕ) → AreShards shards
    → i < length shards → StandsFor (whole shards) S → ShardStands S shards i

-- A page that a shard names as its victim, and one that any call of it but a restart evicts, is
-- farthest back over all references, among the unpinned resident pages of its shard.
abbrev pub ShardVictimsAreFarthest : Type 0
ShardVictimsAreFarthest = (S : ReferenceSet) (shards : List NodeState) (i : ℕ) (new : NodeView)
    (call : Call) (reply : Reply) (v : PageId) → AreShards shards → i < length shards
    → StandsFor (whole shards) S → Step (node_view (shard_at shards i)) call reply new
    → call ≢ Restart → IsEvicted (view_of (shard_at shards i).pool) new.pool v
    → IsFarthest S (unfixed_pages (view_of (shard_at shards i).pool)) v

-- every page that the call brings is of this shard
abbrev pub BringsOwn : ℕ → ℕ → Call → Type 0
BringsOwn count i (Absorb batch) = All (λ r. shard_of count r.page ≡ i) batch
BringsOwn count i (Receive (Entries sender horizon entries)) =
    All (λ e. shard_of count e.page ≡ i) entries
BringsOwn count i (Pin p) = shard_of count p ≡ i
BringsOwn count i call = Unit {0}

-- A node that holds the pages of one shard alone still does after any call that brings no page of
-- another, whatever the reply.
abbrev pub StepsStayInShard : Type 0
StepsStayInShard = (count i : ℕ) (old new : NodeView) (call : Call) (reply : Reply)
    → BringsOwn count i call → HoldsPagesOf count i old → Step old call reply new
    → HoldsPagesOf count i new

-- A node that holds the pages of one shard alone still does after a call of a device failed, of
-- which a caller sees the count of failures alone: so after a write-back too.
abbrev pub FailuresStayInShard : Type 0
FailuresStayInShard = (count i : ℕ) (old new : NodeView) → OnPool IsFailed old new
    → HoldsPagesOf count i old → HoldsPagesOf count i new

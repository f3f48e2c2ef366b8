-- The digests of all shards together, gathered shard by shard.
use Rattle.std.proofs.Common.{◌≡◌, inl, inr, ℕ, ◌+◌, ◌<◌, ◌%◌, List, [], length, refl, sym, ◌∙◌, arith}
use Rattle.std.proofs.lemmas.List.FromFn.{fill_by_all}
use Rattle.std.proofs.lemmas.Bool.{cases_eq}
use Rattle.warm_stamps.specs.declared.TheConstants.{BUCKETS}
use Rattle.warm_history.specs.Entry.{Entry}
use Rattle.warm_history.specs.Histories.{entries_of}
use Rattle.warm_frames.specs.Digests.{digest_at}
use Rattle.warm_digest.specs.BucketDigests.{bucket_digest, digests_of}
use Rattle.warm_digest.proofs.CachedLemmas.{digest_is}
use Rattle.warm_gossip.specs.State.{NodeState}
use Rattle.warm_visits.specs.Digests.{FillsShard}
use Rattle.warm_shards.specs.Shards.{AreShards, shard_at, whole}
use Rattle.warm_shards.proofs.Buckets.{bucket_whole}

-- the digest of a bucket is that of its shard
pub digest_whole : (ns : List NodeState) (j bucket : ℕ) → AreShards ns → j < length ns
    → bucket < BUCKETS → bucket % length ns ≡ j
    → digest_at (digests_of (entries_of (shard_at ns j).history)) bucket
    ≡ digest_at (digests_of (entries_of (whole ns))) bucket
digest_whole ns j bucket are lt low is =
    let same : bucket_digest (entries_of (whole ns)) bucket ≡ bucket_digest (entries_of (shard_at ns j).history) bucket = rw (bucket_whole ns j bucket are lt is) refl in
    digest_is (entries_of (shard_at ns j).history) bucket low
    ∙ sym same
    ∙ sym (digest_is (entries_of (whole ns)) bucket low)

-- the digests of the buckets of the first shards are there
abbrev pub AreGathered : ℕ → ℕ → List Entry → List (List ℕ) → Type 0
AreGathered count k es digests = (bucket : ℕ) → bucket < BUCKETS → bucket % count < k
    → digest_at digests bucket ≡ digest_at (digests_of es) bucket

pub gathered_more : (count k : ℕ) (es : List Entry) (old table new : List (List ℕ))
    → FillsShard count k old table new
    → ((bucket : ℕ) → bucket < BUCKETS → bucket % count ≡ k
    → digest_at table bucket ≡ digest_at (digests_of es) bucket)
    → AreGathered count k es old → AreGathered count (k + 1) es new
gathered_more count k es old table new fills own so_far bucket low below = elim (cases_eq (bucket % count) k) [
  | inl same ↦ fills.own bucket low same ∙ own bucket low same
  | inr other ↦ fills.others bucket other ∙ so_far bucket low (omega arith)
]

pub all_gathered : (count : ℕ) (es : List Entry) (digests : List (List ℕ)) → 0 < count
    → length digests ≡ BUCKETS → AreGathered count count es digests → digests ≡ digests_of es
all_gathered count es digests some long each =
    fill_by_all (bucket_digest es) digests BUCKETS [] long (λ bucket low. each bucket low (omega arith) ∙ digest_is es bucket low)

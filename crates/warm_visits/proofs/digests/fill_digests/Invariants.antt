use Rattle.std.proofs.Common.{◌≡◌, ◌≢◌, ℕ, ◌<◌, ◌%◌, length}
use Rattle.warm_frames.specs.Digests.{digest_at}
use Rattle.warm_visits.proofs.digests.fill_digests.Given as goal

-- the digests of the shard's buckets so far
abbrev pub invariant-loop-number : goal.invariant-loop-number
invariant-loop-number l = record {
  size : length l.digests ≡ length l.fn.digests;
  own : (bucket : ℕ) → bucket < l.number → bucket % l.count ≡ l.shard → digest_at l.digests bucket ≡ digest_at l.table bucket;
  others : (bucket : ℕ) → bucket % l.count ≢ l.shard → digest_at l.digests bucket ≡ digest_at l.fn.digests bucket;
}

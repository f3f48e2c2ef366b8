use Rattle.std.proofs.Common.{◌≡◌, ◌<◌, ◌++◌, ℕ, length}
use Rattle.std.specs.Int.{bit_at}
use Rattle.std.specs.List.{range_with_len}
use Rattle.warm_stamps.specs.declared.TheConstants.{BUCKETS}
use Rattle.warm_history.specs.Histories.{entries_of}
use Rattle.warm_history.specs.Losses.{raised}
use Rattle.warm_frames.specs.Digests.{digest_at}
use Rattle.warm_digest.specs.BucketDigests.{bucket_digest}
use Rattle.warm_digest.specs.CachedDigests.{SameDigestsOutside}
use Rattle.warm_digest.proofs.cached.renewed.Given as goal

-- the buckets so far are done
abbrev pub invariant-loop-bucket : goal.invariant-loop-bucket
invariant-loop-bucket l = record {
  split : l.yielded ++ l.bucket-iterator ≡ range_with_len 0 BUCKETS;
  all : length l.digests ≡ BUCKETS;
  wanted : (bucket : ℕ) → bucket < length l.yielded → bit_at l.buckets bucket ≡ 1 → digest_at l.digests bucket ≡ bucket_digest (entries_of (raised l.horizon l.history)) bucket;
  others : SameDigestsOutside l.buckets l.fn.digests l.digests;
}

use Rattle.std.proofs.Common.{◌≡◌, ◌≤◌, ◌<◌, ◌↔◌, ◌≢◌, ◌++◌, ℕ, length}
use Rattle.std.specs.Int.{bit_at}
use Rattle.std.specs.List.{range_with_len}
use Rattle.warm_stamps.specs.declared.TheConstants.{BUCKETS}
use Rattle.warm_frames.specs.Digests.{digest_at}
use Rattle.warm_digest.proofs.differing.Given as goal

abbrev pub invariant-loop-bucket : goal.invariant-loop-bucket
invariant-loop-bucket l = record {
  split : l.yielded ++ l.bucket-iterator ≡ range_with_len 0 BUCKETS;
  seen : (bucket : ℕ) → bucket < length l.yielded → (bit_at l.buckets bucket ≡ 1) ↔ (digest_at l.left bucket ≢ digest_at l.right bucket);
  rest : (bucket : ℕ) → length l.yielded ≤ bucket → bit_at l.buckets bucket ≡ 0;
}

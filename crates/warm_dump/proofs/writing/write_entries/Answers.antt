use Rattle.std.proofs.Common.{◌≡◌, ◌+◌, ◌∷◌, ◌++◌, [], ℕ, length, ap, sym, subst, ◌∙◌}
use Rattle.std.specs.Io.KnownBytes.{Appends}
use Rattle.std.proofs.KnownBytes.{Appends-nil}
use Rattle.warm_stamps.specs.declared.TheConstants.{BUCKETS}
use Rattle.warm_stamps.proofs.BucketLemmas.{Visited, visited, all_visited}
use Rattle.warm_frames.proofs.ChunkLemmas.{bucket_ascends}
use Rattle.warm_dump.specs.Dumps.{text_of}
use Rattle.warm_dump.proofs.DumpLemmas.{messages_below, bucket_written}
use Rattle.warm_dump.proofs.writing.write_entries.Goals as goal

pub loop-bucket-init : goal.loop-bucket-init
loop-bucket-init g c = record {
  split = c.into_iter-bucket-iterator.ensures.into_iter_gives ∙ c.all-bucket-items.ensures;
  written = Appends-nil _;
}

pub write_bucket-requires : goal.write_bucket-requires
write_bucket-requires g c = bucket_ascends c.in-Some.bucket c.args.history.now _ c.bucket.ensures c.prove_is_history.ensures

pub loop-bucket-preserved : goal.loop-bucket-preserved
loop-bucket-preserved g c =
    let so_far = c.loop-bucket.invariant in
    let b : ℕ = c.in-Some.bucket in
    let before = c.loop-bucket.yielded in
    let v : Visited before c.next.new.self b = visited before c.loop-bucket.bucket-iterator c.next.new.self b so_far.split c.in-Some.ensures.steps in
    let longer : length (before ++ b ∷ []) ≡ length before + 1 = v.longer ∙ ap (λ (n : ℕ). n + 1) v.at in
    record {
      split = v.split;
      written = subst (λ (n : ℕ). Appends (g.W.Write.contents c.args.writer.now) (g.W.Write.contents c.write_bucket.new.writer) (text_of (messages_below c.args.sender c.args.history.now n))) (sym longer)
          (bucket_written _ _ _ c.args.sender b (length before) _ c.args.history.now _ v.at c.horizon-horizon.ensures.value c.bucket.ensures so_far.written c.in_ok-write_bucket.ensures.written);
    }

pub returns-clause-written : goal.returns-clause-written
returns-clause-written g c =
    let all : length c.loop-bucket.yielded ≡ BUCKETS = all_visited c.loop-bucket.yielded c.loop-bucket.bucket-iterator c.loop-bucket.invariant.split c.in-None.ensures.steps.0 in
    rw all at c.loop-bucket.invariant.written

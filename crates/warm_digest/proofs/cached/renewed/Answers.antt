use Rattle.std.proofs.Common.{◌≡◌, ◌≢◌, ℕ, [], List, length, slice_set, inl, inr, arith, ap, sym, subst, ◌∙◌}
use Rattle.std.specs.Int.{bit_at}
use Rattle.std.proofs.lemmas.Bool.{cases_eq, eqb-true, eqb-false}
use Rattle.std.proofs.lemmas.Grind.{get_or-set_at}
use Rattle.std.proofs.lemmas.List.{get_or-set_other, length-set}
use Rattle.sha2.specs.Sha256.{sha256}
use Rattle.warm_stamps.proofs.BucketLemmas.{Visited, visited, all_visited}
use Rattle.warm_history.specs.Entry.{Entry}
use Rattle.warm_history.specs.Histories.{entries_of}
use Rattle.warm_history.specs.Losses.{raised}
use Rattle.warm_frames.specs.Digests.{digest_at}
use Rattle.warm_frames.specs.Entries.{entries_bytes}
use Rattle.warm_digest.specs.BucketDigests.{bucket_digest}
use Rattle.warm_digest.proofs.cached.renewed.Goals as goal

-- a bucket of the set has its digest now, and the others have theirs
pub loop-bucket-preserved-then-contains : goal.loop-bucket-preserved-then-contains
loop-bucket-preserved-then-contains c =
    let so_far = c.loop-bucket.invariant in
    let b : ℕ = c.in-Some.bucket in
    let i : ℕ = c.from.result in
    let es = entries_of (raised c.args.horizon c.args.history.now) in
    let old = c.loop-bucket.digests in
    let new = slice_set old i c.in_ok-digests.field-0 in
    let v : Visited c.loop-bucket.yielded c.next.new.self b = visited c.loop-bucket.yielded c.loop-bucket.bucket-iterator c.next.new.self b so_far.split c.in-Some.ensures.steps in
    let at : i ≡ b = c.from.ensures ∙ c.get.ensures.value in
    let one : bit_at c.args.buckets b ≡ 1 = eqb-true (bit_at c.args.buckets b) 1 (sym c.contains.ensures ∙ c.if-contains.true) in
    let digest : c.in_ok-digests.field-0 ≡ bucket_digest es b = c.in_ok-digests.ensures ∙ ap (λ (x : List Entry). sha256 (entries_bytes x)) c.bucket_at_horizon.ensures in
    let here : digest_at new b ≡ bucket_digest es b = get_or-set_at old i b c.in_ok-digests.field-0 [] (sym at) (omega (arith, at, v.below, so_far.all)) ∙ digest in
    let other : (k : ℕ) → k ≢ b → digest_at new k ≡ digest_at old k = λ k differ. get_or-set_other old i k c.in_ok-digests.field-0 [] (λ same. differ (same ∙ at)) in
    record {
      split = v.split;
      all = length-set old i c.in_ok-digests.field-0 ∙ so_far.all;
      wanted = λ k low set. elim (cases_eq k b) [
        | inl same ↦ subst (λ (n : ℕ). digest_at new n ≡ bucket_digest es n) (sym same) here
        | inr differ ↦ other k differ ∙ so_far.wanted k (omega (arith, low, v.longer, v.at, differ)) set
      ];
      others = λ k low clear. elim (cases_eq k b) [
        | inl same ↦ absurd (omega (arith, one, subst (λ (n : ℕ). bit_at c.args.buckets n ≡ 0) same clear))
        | inr differ ↦ other k differ ∙ so_far.others k low clear
      ];
    }

-- one that is not in the set is passed over
pub loop-bucket-preserved : goal.loop-bucket-preserved
loop-bucket-preserved c =
    let so_far = c.loop-bucket.invariant in
    let b : ℕ = c.in-Some.bucket in
    let es = entries_of (raised c.args.horizon c.args.history.now) in
    let v : Visited c.loop-bucket.yielded c.next.new.self b = visited c.loop-bucket.yielded c.loop-bucket.bucket-iterator c.next.new.self b so_far.split c.in-Some.ensures.steps in
    let not_one : bit_at c.args.buckets b ≢ 1 = eqb-false (bit_at c.args.buckets b) 1 (sym c.contains.ensures ∙ c.if-contains.false) in
    record {
      split = v.split;
      all = so_far.all;
      wanted = λ k low set. elim (cases_eq k b) [
        | inl same ↦ absurd (not_one (subst (λ (n : ℕ). bit_at c.args.buckets n ≡ 1) same set))
        | inr differ ↦ so_far.wanted k (omega (arith, low, v.longer, v.at, differ)) set
      ];
      others = so_far.others;
    }

-- all buckets were visited
pub returns-clause-wanted : goal.returns-clause-wanted
returns-clause-wanted c =
    let all : length c.loop-bucket.yielded ≡ 64 = all_visited c.loop-bucket.yielded c.loop-bucket.bucket-iterator c.loop-bucket.invariant.split c.in-None.ensures.steps.0 in
    λ bucket low. c.loop-bucket.invariant.wanted bucket (omega (arith, low, all))

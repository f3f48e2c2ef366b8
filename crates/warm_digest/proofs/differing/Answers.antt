use Rattle.std.proofs.Common.{◌≡◌, ◌≢◌, ◌↔◌, ◌≤◌, ◌<◌, ◌+◌, ◌^◌, ◌∷◌, ◌++◌, [], ℕ, Bool, true, false, List, length, arith, ap, subst, sym, not, true≢false, ◌∙◌}
use Rattle.std.specs.Prelude.{bit_or, bytes_eq}
use Rattle.std.specs.Int.{bit_at}
use Rattle.std.proofs.lemmas.Nat.Bits.{bit_at-zero}
use Rattle.std.proofs.lemmas.Slice.Eq.{bytes_eq-Decides}
use Rattle.warm_stamps.proofs.BucketLemmas.{Visited, visited, all_visited, seen_with, seen_without, rest_with}
use Rattle.warm_frames.specs.Digests.{digest_at}
use Rattle.warm_digest.proofs.differing.Goals as goal

-- two digests differ if the test says so
differ : (x y : List ℕ) (b : Bool) → b ≡ not (bytes_eq x y) → b ≡ true → x ≢ y
differ x y b is set same = true≢false (sym set ∙ is ∙ ap not ((bytes_eq-Decides x y).1 same))

alike : (x y : List ℕ) (b : Bool) → b ≡ not (bytes_eq x y) → b ≡ false → x ≡ y
alike x y b is clear = (bytes_eq-Decides x y).0 (not_false (bytes_eq x y) (sym is ∙ clear))
  where
    not_false : (t : Bool) → not t ≡ false → t ≡ true
    not_false true e = λ i. true
    not_false false e = absurd (true≢false e)

-- what is said of the buckets so far
abbrev Says : List (List ℕ) → List (List ℕ) → ℕ → ℕ → Type 0
Says left right bucket bit = (bit ≡ 1) ↔ (digest_at left bucket ≢ digest_at right bucket)

abbrev Seen : (ℕ → ℕ → Type 0) → ℕ → ℕ → Type 0
Seen P buckets count = (bucket : ℕ) → bucket < count → P bucket (bit_at buckets bucket)

abbrev Clear : ℕ → ℕ → Type 0
Clear buckets count = (bucket : ℕ) → count ≤ bucket → bit_at buckets bucket ≡ 0

pub loop-bucket-init : goal.loop-bucket-init
loop-bucket-init c = record {
  split = c.into_iter-bucket-iterator.ensures.into_iter_gives ∙ c.all-bucket-items.ensures;
  seen = λ bucket before. absurd (omega (arith, before));
  rest = λ bucket above. ap (λ (n : ℕ). bit_at n bucket) c.new-buckets.ensures ∙ bit_at-zero bucket;
}

-- a bucket whose digests differ is put in
pub loop-bucket-preserved-then-ne : goal.loop-bucket-preserved-then-ne
loop-bucket-preserved-then-ne c =
    let so_far = c.loop-bucket.invariant in
    let P = Says c.args.left.now c.args.right.now in
    let b : ℕ = c.in-Some.bucket in
    let more = bit_or c.loop-bucket.buckets (2 ^ b) in
    let v : Visited c.loop-bucket.yielded c.next.new.self b = visited c.loop-bucket.yielded c.loop-bucket.bucket-iterator c.next.new.self b so_far.split c.in-Some.ensures.steps in
    let here : P b 1 = ((λ one same. differ c.digest.result c.digest-in-loop-bucket.result c.ne.result c.ne.ensures c.if-ne.true (c.digest.ensures ∙ same ∙ sym c.digest-in-loop-bucket.ensures)), λ other. (λ i. 1)) in
    let seen : Seen P more (b + 1) = seen_with P c.loop-bucket.buckets b here (subst (Seen P c.loop-bucket.buckets) (sym v.at) so_far.seen) in
    let rest : Clear more (b + 1) = rest_with c.loop-bucket.buckets b (subst (Clear c.loop-bucket.buckets) (sym v.at) so_far.rest) in
    let is : more ≡ c.with-buckets.result = sym c.with-buckets.ensures in
    record {
      split = v.split;
      seen = subst (λ (n : ℕ). Seen P n (length (c.loop-bucket.yielded ++ b ∷ []))) is (subst (Seen P more) (sym v.longer) seen);
      rest = subst (λ (n : ℕ). Clear n (length (c.loop-bucket.yielded ++ b ∷ []))) is (subst (Clear more) (sym v.longer) rest);
    }

-- one whose digests are alike is left out
pub loop-bucket-preserved : goal.loop-bucket-preserved
loop-bucket-preserved c =
    let so_far = c.loop-bucket.invariant in
    let P = Says c.args.left.now c.args.right.now in
    let b : ℕ = c.in-Some.bucket in
    let set = c.loop-bucket.buckets in
    let v : Visited c.loop-bucket.yielded c.next.new.self b = visited c.loop-bucket.yielded c.loop-bucket.bucket-iterator c.next.new.self b so_far.split c.in-Some.ensures.steps in
    let here : P b 0 = ((λ one. absurd (omega (arith, one))), λ other. absurd (other (sym c.digest.ensures ∙ alike c.digest.result c.digest-in-loop-bucket.result c.ne.result c.ne.ensures c.if-ne.false ∙ c.digest-in-loop-bucket.ensures))) in
    let clear : bit_at set b ≡ 0 = so_far.rest b (omega (arith, v.at)) in
    let seen : Seen P set (b + 1) = seen_without P set b here clear (subst (Seen P set) (sym v.at) so_far.seen) in
    record {
      split = v.split;
      seen = subst (Seen P set) (sym v.longer) seen;
      rest = λ bucket above. so_far.rest bucket (omega (arith, above, v.longer, v.at));
    }

pub returns : goal.returns
returns c =
    let all : length c.loop-bucket.yielded ≡ 64 = all_visited c.loop-bucket.yielded c.loop-bucket.bucket-iterator c.loop-bucket.invariant.split c.in-None.ensures.steps.0 in
    λ bucket low. c.loop-bucket.invariant.seen bucket (omega (arith, low, all))

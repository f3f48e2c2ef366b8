-- The buckets of a set, one after the other.
use Rattle.std.proofs.Common.{◌≡◌, ◌≢◌, ◌<◌, ◌≤◌, ◌+◌, ◌-◌, ◌^◌, ◌==◌, ◌++◌, ℕ, zero, suc, true, false, List, [], ◌∷◌, filter, length, cond, sym, ap, subst, ◌∙◌, arith, below_more, append_assoc}
use Rattle.std.specs.Int.{bit_at}
use Rattle.std.specs.List.{range_with_len}
use Rattle.std.specs.Prelude.{bit_or}
use Rattle.std.proofs.lemmas.List.{append-nil, length-append}
use Rattle.std.proofs.lemmas.List.FromFn.{length-range_with_len}
use Rattle.std.proofs.lemmas.Nat.Bits.{bit_at_or, bit_at-pow_same, bit_at-pow_other, bit_at-lt}
use Rattle.warm_stamps.specs.declared.TheConstants.{BUCKETS}
use Rattle.warm_stamps.specs.Buckets.{buckets_from}

first_of : (n : ℕ) → n < BUCKETS
    → range_with_len n (BUCKETS - n) ≡ n ∷ range_with_len (n + 1) (BUCKETS - (n + 1))
first_of n low = let more : BUCKETS - n ≡ suc (BUCKETS - (n + 1)) = omega arith in ap (range_with_len n) more

-- a number that is in the set comes first
pub taken : (set n : ℕ) → n < BUCKETS → (bit_at set n == 1) ≡ true
    → buckets_from set n ≡ n ∷ buckets_from set (n + 1)
taken set n low is = ap (filter (λ b. bit_at set b == 1)) (first_of n low) ∙ ap (λ b. cond b (n ∷ buckets_from set (n + 1)) (buckets_from set (n + 1))) is

-- a number that is not in the set is left out
pub passed : (set n : ℕ) → n < BUCKETS → (bit_at set n == 1) ≡ false
    → buckets_from set n ≡ buckets_from set (n + 1)
passed set n low is = ap (filter (λ b. bit_at set b == 1)) (first_of n low) ∙ ap (λ b. cond b (n ∷ buckets_from set (n + 1)) (buckets_from set (n + 1))) is

-- ---- a set with one bucket more

pub with_same : (set i : ℕ) → bit_at (bit_or set (2 ^ i)) i ≡ 1
with_same set i = omega (arith, bit_at_or set (2 ^ i) i, bit_at-pow_same i, bit_at-lt set i)

pub with_other : (set i b : ℕ) → b ≢ i → bit_at (bit_or set (2 ^ i)) b ≡ bit_at set b
with_other set i b other = omega (arith, bit_at_or set (2 ^ i) b, bit_at-pow_other i b other)

-- ---- all buckets, one after the other

stands_at : (first count : ℕ) (before after : List ℕ) (b : ℕ)
    → before ++ b ∷ after ≡ range_with_len first count
    → (b ≡ first + length before) × (length before < count)
stands_at first zero [] after b is = absurd (cc)
stands_at first zero (x ∷ before) after b is = absurd (cc)
stands_at first (suc count) [] after b is = let here : b ≡ first = cc in (omega (arith, here), omega arith)
stands_at first (suc count) (x ∷ before) after b is =
    let later : before ++ b ∷ after ≡ range_with_len (first + 1) count = cc in
    let found = stands_at (first + 1) count before after b later in
    (omega (arith, found.0), omega (arith, found.1))

-- a bucket more was visited: these were before it, and those come after it
pub record Visited (before after : List ℕ) (b : ℕ) : Type 0 where
  pub split : (before ++ b ∷ []) ++ after ≡ range_with_len 0 BUCKETS
  pub at : b ≡ length before
  pub below : b < BUCKETS
  pub longer : length (before ++ b ∷ []) ≡ b + 1

pub visited : (before left after : List ℕ) (b : ℕ) → before ++ left ≡ range_with_len 0 BUCKETS
    → left ≡ b ∷ after → Visited before after b
visited before left after b split steps =
    let whole : before ++ b ∷ after ≡ range_with_len 0 BUCKETS = ap (λ rest. before ++ rest) (sym steps) ∙ split in
    let found = stands_at 0 BUCKETS before after b whole in
    let at : b ≡ length before = omega (arith, found.0) in
    record {
      split = append_assoc before (b ∷ []) after ∙ whole;
      at = at;
      below = omega (arith, at, found.1);
      longer = omega (arith, length-append before (b ∷ []), at);
    }

-- if none is left, all have been visited
pub all_visited : (before after : List ℕ) → before ++ after ≡ range_with_len 0 BUCKETS → after ≡ []
    → length before ≡ BUCKETS
all_visited before after is none = sym (ap length (append-nil before)) ∙ ap (λ rest. length (before ++ rest)) (sym none) ∙ ap length is ∙ length-range_with_len 0 BUCKETS

-- ---- a set that is made bucket by bucket: what is said of those so far holds of the next too

pub seen_with : (Says : ℕ → ℕ → Type 0) (set i : ℕ) → Says i 1
    → ((b : ℕ) → b < i → Says b (bit_at set b)) → (b : ℕ) → b < i + 1
    → Says b (bit_at (bit_or set (2 ^ i)) b)
seen_with Says set i says seen =
    let more = bit_or set (2 ^ i) in
    below_more (λ b. Says b (bit_at more b)) i (λ b before. subst (Says b) (sym (with_other set i b (λ same. omega (arith, same, before)))) (seen b before)) (subst (Says i) (sym (with_same set i)) says)

pub seen_without : (Says : ℕ → ℕ → Type 0) (set i : ℕ) → Says i 0 → bit_at set i ≡ 0
    → ((b : ℕ) → b < i → Says b (bit_at set b)) → (b : ℕ) → b < i + 1 → Says b (bit_at set b)
seen_without Says set i says clear seen = below_more (λ b. Says b (bit_at set b)) i seen (subst (Says i) (sym clear) says)

pub rest_with : (set i : ℕ) → ((b : ℕ) → i ≤ b → bit_at set b ≡ 0) → (b : ℕ) → i + 1 ≤ b
    → bit_at (bit_or set (2 ^ i)) b ≡ 0
rest_with set i rest b above = with_other set i b (λ same. omega (arith, same, above)) ∙ rest b (omega arith)

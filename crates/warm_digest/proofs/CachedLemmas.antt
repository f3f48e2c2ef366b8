-- Digests that are kept, and renewed bucket by bucket.
use Rattle.std.proofs.Common.{◌≡◌, inl, inr, ℕ, ◌<◌, ◌^◌, List, [], length, min, ◌-◌, sym, ap, subst, ◌∙◌, arith}
use Rattle.std.specs.Prelude.{bit_and, bit_or}
use Rattle.std.specs.Int.{bit_at, bit_not, w64}
use Rattle.std.proofs.lemmas.Bool.{cases_eq}
use Rattle.std.proofs.lemmas.List.FromFn.{fill_by_all, get_or-map-range_with_len}
use Rattle.std.proofs.lemmas.Nat.Bits.{bit_at-lt, bit_at_and, bit_at_not, bit_at_or, bit_at_ones}
use Rattle.warm_stamps.specs.declared.TheConstants.{BUCKETS}
use Rattle.warm_history.specs.Entry.{Entry}
use Rattle.warm_history.specs.Changes.{MarksChanged}
use Rattle.warm_history.specs.Losses.{MarksLosing, raised}
use Rattle.warm_history.specs.Histories.{HistoryView, entries_of, history_of_entries}
use Rattle.warm_frames.specs.Entries.{entries_bytes}
use Rattle.warm_frames.specs.Digests.{digest_at}
use Rattle.sha2.specs.Sha256.{sha256}
use Rattle.warm_digest.specs.BucketDigests.{bucket_digest, digests_of, digests_at_horizon}
use Rattle.warm_digest.specs.CachedDigests.{HasDigestsOf, SameDigestsOutside, AreCurrent}

abbrev digest_from : List Entry → List ℕ
digest_from es = sha256 (entries_bytes es)

-- a bit of the union of two sets of buckets is clear only if it is clear in both
both_clear : (a b i : ℕ) → bit_at (bit_or a b) i ≡ 0 → (bit_at a i ≡ 0) × (bit_at b i ≡ 0)
both_clear a b i clear = let is = bit_at_or a b i in (omega (arith, is, clear), omega (arith, is, clear))

-- the digests that are not marked stay right if the buckets whose entries change are marked
pub kept_as_marked : (es fs : List Entry) (old changed now : ℕ) (digests : List (List ℕ))
    → now ≡ bit_or old changed → AreCurrent old es digests → MarksChanged es fs changed
    → AreCurrent now fs digests
kept_as_marked es fs old changed now digests is kept marks bucket low clear =
    let both = both_clear old changed bucket (subst (λ (n : ℕ). bit_at n bucket ≡ 0) is clear) in
    kept bucket low both.0 ∙ sym (ap digest_from ((marks bucket low).1 both.1))

-- ---- renewed digests

pub digest_is : (es : List Entry) (bucket : ℕ) → bucket < BUCKETS
    → digest_at (digests_of es) bucket ≡ bucket_digest es bucket
digest_is es bucket low = get_or-map-range_with_len (bucket_digest es) 0 BUCKETS bucket bucket [] low (omega arith)

-- the digests of nothing are right for a history that holds nothing
pub nothing_kept : (changed : ℕ) (h : HistoryView) (digests : List (List ℕ))
    → digests ≡ digests_of [] → h ≡ history_of_entries []
    → AreCurrent changed (entries_of h) digests
nothing_kept changed h digests are none bucket low clear = ap (λ (s : List (List ℕ)). digest_at s bucket) are ∙ digest_is [] bucket low ∙ sym (ap (λ (g : HistoryView). bucket_digest (entries_of g) bucket) none)

-- a table that has the digest of each bucket is the table of digests
all_done : (digests : List (List ℕ)) (h : List Entry) → length digests ≡ BUCKETS
    → ((b : ℕ) → b < BUCKETS → digest_at digests b ≡ bucket_digest h b) → digests ≡ digests_of h
all_done digests h all each = fill_by_all (bucket_digest h) digests BUCKETS [] all each

-- digests that were right but for the marked ones, and these renewed, are all right
pub all_right : (changed : ℕ) (h : List Entry) (old new : List (List ℕ)) → length new ≡ BUCKETS
    → AreCurrent changed h old → HasDigestsOf changed h new → SameDigestsOutside changed old new
    → new ≡ digests_of h
all_right changed h old new count kept has same = all_done new h count (λ bucket low. elim (cases_eq (bit_at changed bucket) 1) [
  | inl set ↦ has bucket low set
  | inr clear ↦ (let zero_is : bit_at changed bucket ≡ 0 = omega (arith, bit_at-lt changed bucket, clear) in same bucket low zero_is ∙ kept bucket low zero_is)
])

-- digests that were all renewed are all right
pub all_renewed : (all : ℕ) (h : List Entry) (digests : List (List ℕ)) → all ≡ 2 ^ 64 - 1
    → length digests ≡ BUCKETS → HasDigestsOf all h digests → digests ≡ digests_of h
all_renewed all h digests is count has = all_done digests h count (λ bucket low. has bucket low (ap (λ (n : ℕ). bit_at n bucket) is ∙ bit_at_ones 64 bucket low))

-- ---- digests at a horizon

-- of the changed buckets those are renewed that lose nothing: the others stay marked
pub others_right : (changed lost buckets now : ℕ) (h : List Entry) (old new : List (List ℕ))
    → lost < 2 ^ 64 → buckets ≡ bit_and changed (bit_not w64 lost) → now ≡ bit_and changed lost
    → AreCurrent changed h old → HasDigestsOf buckets h new → SameDigestsOutside buckets old new
    → AreCurrent now h new
others_right changed lost buckets now h old new fits part stay kept has same bucket low now_clear =
    let clear : bit_at (bit_and changed lost) bucket ≡ 0 = subst (λ (n : ℕ). bit_at n bucket ≡ 0) stay now_clear in
    let not_lost : bit_at (bit_not w64 lost) bucket ≡ 1 - bit_at lost bucket = bit_at_not w64 lost bucket fits low in
    let chosen : bit_at buckets bucket ≡ min (bit_at changed bucket) (1 - bit_at lost bucket) = ap (λ (n : ℕ). bit_at n bucket) part ∙ bit_at_and changed (bit_not w64 lost) bucket ∙ ap (min (bit_at changed bucket)) not_lost in
    let left : min (bit_at changed bucket) (bit_at lost bucket) ≡ 0 = sym (bit_at_and changed lost bucket) ∙ clear in
    elim (cases_eq (bit_at changed bucket) 0) [
      | inl unchanged ↦ (let out : bit_at buckets bucket ≡ 0 = omega (arith, chosen, unchanged) in same bucket low out ∙ kept bucket low unchanged)
      | inr marked ↦ (let in_it : bit_at buckets bucket ≡ 1 = omega (arith, chosen, left, marked, bit_at-lt changed bucket, bit_at-lt lost bucket) in has bucket low in_it)
    ]

-- digests of a history, with those that it would have at a horizon of the buckets that lose
-- something there
pub all_at_horizon : (changed lost now horizon : ℕ) (h : HistoryView) (own table : List (List ℕ))
    → length table ≡ BUCKETS → now ≡ bit_and changed lost → AreCurrent now (entries_of h) own
    → MarksLosing horizon h lost
    → HasDigestsOf lost (entries_of (raised horizon h)) table → SameDigestsOutside lost own table
    → table ≡ digests_at_horizon horizon h
all_at_horizon changed lost now horizon h own table count stay kept loses has same = all_done table (entries_of (raised horizon h)) count (λ bucket low. elim (cases_eq (bit_at lost bucket) 1) [
  | inl set ↦ has bucket low set
  | inr clear ↦ (let zero_is : bit_at lost bucket ≡ 0 = omega (arith, bit_at-lt lost bucket, clear) in
      let both : bit_at now bucket ≡ 0 = ap (λ (n : ℕ). bit_at n bucket) stay ∙ bit_at_and changed lost bucket ∙ omega (arith, zero_is) in
      same bucket low zero_is ∙ kept bucket low both ∙ sym (ap digest_from ((loses bucket low).1 zero_is)))
])

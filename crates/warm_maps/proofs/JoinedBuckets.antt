-- Maps of buckets that are each merged with another's are, together, the pairs of all merged.
use Rattle.std.proofs.Common.{◌≡◌, ℕ, ◌+◌, ◌<◌, ◌≤◌, zero, suc, inl, inr, List, [], ◌∷◌, ◌++◌, sym, ap, refl, ◌∙◌, subst, arith, append_assoc, length}
use Rattle.std.specs.Int.{bit_at}
use Rattle.std.specs.BTreeMap.{insert_entry}
use Rattle.std.specs.Ordering.{nat_cmp}
use Rattle.std.proofs.lemmas.List.Elements.{filter_map-append}
use Rattle.std.proofs.lemmas.Nat.Bits.{bit_at-zero}
use Rattle.warm_stamps.proofs.BucketLemmas.{with_same, with_other}
use Rattle.warm_maps.specs.MapKeys.{first_key}
use Rattle.warm_maps.specs.MapPairs.{MapPairs}
use Rattle.warm_maps.specs.BucketMaps.{all_pairs, AreBuckets, LiesIn, map_at, found}
use Rattle.warm_maps.specs.Cuts.{cut_pair, cut_at}
use Rattle.warm_maps.specs.Runs.{at_key, with_pairs}
use Rattle.warm_maps.specs.Walks.{joined_with, joined_pairs, merged, DiffersAt}
use Rattle.warm_maps.specs.NearJoins.{HasChanged, joined_maps}
use Rattle.warm_maps.proofs.BucketLemmas.{find_after_lower, find_before_higher, insert_after_lower, insert_before_higher}
use Rattle.warm_maps.proofs.CutLemmas.{all_left}
use Rattle.warm_maps.proofs.MergedBuckets.{joined_all}
use Rattle.warm_maps.proofs.NearMerges.{all_put}
use Rattle.warm_maps.proofs.NearParts.{AllKeys, all_append, all_so}

-- ---- pairs before a key, and pairs from it on

joined_append : (old a b : MapPairs)
    → joined_pairs old (a ++ b) ≡ joined_pairs old a ++ joined_pairs old b
joined_append old [] b = refl
joined_append old (e ∷ a) b =
    ap (λ t. at_key e.0 (joined_with e.1 (found e.0 old)) ++ t) (joined_append old a b)
    ∙ sym (append_assoc (at_key e.0 (joined_with e.1 (found e.0 old))) (joined_pairs old a) (joined_pairs old b))

with_append : (old a b : MapPairs) → with_pairs old (a ++ b) ≡ with_pairs (with_pairs old b) a
with_append old [] b = refl
with_append old (e ∷ a) b = ap (λ t. insert_entry nat_cmp t e.0 e.1) (with_append old a b)

module _ (c : ℕ) where
  below_of : (p : ℕ) → c ≤ p → (low : MapPairs) → AllKeys (λ k. k < c) low
      → AllKeys (λ k. k < p) low
  below_of p le low all = all_so (λ k. k < c) (λ k. k < p) (λ k lt. omega arith) low all

  above_of : (p : ℕ) → p < c → (high : MapPairs) → AllKeys (λ k. c ≤ k) high
      → AllKeys (λ k. p < k) high
  above_of p lt high all = all_so (λ k. c ≤ k) (λ k. p < k) (λ k le. omega arith) high all

  joined_low : (f F r : MapPairs) → AllKeys (λ k. k < c) r → AllKeys (λ k. c ≤ k) F
      → joined_pairs (f ++ F) r ≡ joined_pairs f r
  joined_low f F [] low high = refl
  joined_low f F (e ∷ r) low high =
      ap (λ x. at_key e.0 (joined_with e.1 x) ++ joined_pairs (f ++ F) r) (find_before_higher e.0 f F (above_of e.0 low.0 F high))
      ∙ ap (λ t. at_key e.0 (joined_with e.1 (found e.0 f)) ++ t) (joined_low f F r low.1 high)

  joined_high : (f F r : MapPairs) → AllKeys (λ k. k < c) f → AllKeys (λ k. c ≤ k) r
      → joined_pairs (f ++ F) r ≡ joined_pairs F r
  joined_high f F [] low high = refl
  joined_high f F (e ∷ r) low high =
      ap (λ x. at_key e.0 (joined_with e.1 x) ++ joined_pairs (f ++ F) r) (find_after_lower e.0 f F (below_of e.0 high.0 f low))
      ∙ ap (λ t. at_key e.0 (joined_with e.1 (found e.0 F)) ++ t) (joined_high f F r low high.1)

  with_low : (f F r : MapPairs) → AllKeys (λ k. k < c) r → AllKeys (λ k. c ≤ k) F
      → with_pairs (f ++ F) r ≡ with_pairs f r ++ F
  with_low f F [] low high = refl
  with_low f F (e ∷ r) low high =
      ap (λ t. insert_entry nat_cmp t e.0 e.1) (with_low f F r low.1 high)
      ∙ insert_before_higher e.0 e.1 (with_pairs f r) F (above_of e.0 low.0 F high)

  with_high : (f F r : MapPairs) → AllKeys (λ k. k < c) f → AllKeys (λ k. c ≤ k) r
      → with_pairs (f ++ F) r ≡ f ++ with_pairs F r
  with_high f F [] low high = refl
  with_high f F (e ∷ r) low high =
      ap (λ t. insert_entry nat_cmp t e.0 e.1) (with_high f F r low high.1)
      ∙ insert_after_lower e.0 e.1 f (with_pairs F r) (below_of e.0 high.0 f low)

  merged_append : (f F r R : MapPairs) → AllKeys (λ k. k < c) f → AllKeys (λ k. c ≤ k) F
      → AllKeys (λ k. k < c) r → AllKeys (λ k. c ≤ k) R
      → merged (f ++ F) (r ++ R) ≡ merged f r ++ merged F R
  merged_append f F r R low high low_run high_run =
      ap (with_pairs (f ++ F)) (joined_append (f ++ F) r R)
      ∙ with_append (f ++ F) (joined_pairs (f ++ F) r) (joined_pairs (f ++ F) R)
      ∙ ap (λ J. with_pairs (with_pairs (f ++ F) J) (joined_pairs (f ++ F) r)) (joined_high f F R low high_run)
      ∙ ap (λ J. with_pairs (with_pairs (f ++ F) (joined_pairs F R)) J) (joined_low f F r low_run high)
      ∙ ap (λ t. with_pairs t (joined_pairs f r)) (with_high f F (joined_pairs F R) low (joined_all (λ k. c ≤ k) F R high_run))
      ∙ with_low f (merged F R) (joined_pairs f r) (joined_all (λ k. k < c) f r low_run) (all_put (λ k. c ≤ k) F (joined_pairs F R) high (joined_all (λ k. c ≤ k) F R high_run))

-- ---- the maps of buckets

bucket_low : (b : ℕ) (m : MapPairs) → AllKeys (LiesIn b) m → AllKeys (λ k. k < first_key (b + 1)) m
bucket_low b m all = all_so (LiesIn b) (λ k. k < first_key (b + 1)) (λ k lies. lies.1) m all

buckets_high : (c b : ℕ) (ms : List MapPairs) → c ≤ first_key b → AreBuckets b ms
    → AllKeys (λ k. c ≤ k) (all_pairs ms)
buckets_high c b [] le are = tt
buckets_high c b (m ∷ ms) le are =
    let later : c ≤ first_key (b + 1) = omega arith in
    all_append (λ k. c ≤ k) m (all_pairs ms) (all_so (LiesIn b) (λ k. c ≤ k) (λ k lies. let from : first_key b ≤ k = lies.0 in omega arith) m are.0) (buckets_high c (b + 1) ms later are.1)

same_key : (c : ℕ) → c ≤ c
same_key c = omega arith

pub all_joined : (h b : ℕ) (fs gs : List MapPairs) → AreBuckets b fs → AreBuckets b gs
    → length gs ≡ length fs
    → all_pairs (joined_maps h fs gs) ≡ merged (all_pairs fs) (cut_at h (all_pairs gs))
all_joined h b [] [] are also long = refl
all_joined h b [] (g ∷ gs) are also long = absurd (omega (arith, long))
all_joined h b (f ∷ fs) [] are also long = absurd (omega (arith, long))
all_joined h b (f ∷ fs) (g ∷ gs) are also long =
    let c : ℕ = first_key (b + 1) in
    let left : length gs ≡ length fs = omega (arith, long) in
    ap (λ t. merged f (cut_at h g) ++ t) (all_joined h (b + 1) fs gs are.1 also.1 left)
    ∙ sym (merged_append c f (all_pairs fs) (cut_at h g) (cut_at h (all_pairs gs))
    (bucket_low b f are.0) (buckets_high c (b + 1) fs (same_key c) are.1)
    (all_left (λ k. k < c) h g (bucket_low b g also.0)) (all_left (λ k. c ≤ k) h (all_pairs gs) (buckets_high c (b + 1) gs (same_key c) also.1)))
    ∙ ap (merged (f ++ all_pairs fs)) (sym (filter_map-append (cut_pair h) g (all_pairs gs)))

-- ---- which of them change

none_below : (h b : ℕ) (fs gs : List MapPairs) (set j : ℕ) → HasChanged h b fs gs set → j < b
    → bit_at set j ≡ 0
none_below h b [] gs set j is lt = ap (λ (s : ℕ). bit_at s j) is ∙ bit_at-zero j
none_below h b (f ∷ fs) [] set j is lt = ap (λ (s : ℕ). bit_at s j) is ∙ bit_at-zero j
none_below h b (f ∷ fs) (g ∷ gs) set j (rest, later, how) lt =
    let clear : bit_at rest j ≡ 0 = none_below h (b + 1) fs gs rest j later (omega arith) in
    elim how [
      | inl same ↦ ap (λ (s : ℕ). bit_at s j) same.1 ∙ clear
      | inr other ↦ ap (λ (s : ℕ). bit_at s j) other.1 ∙ with_other rest b j (λ at. absurd (omega (arith, at, lt))) ∙ clear
    ]

-- the map of number i has changed, or is as before
abbrev pub TellsAt : ℕ → ℕ → List MapPairs → List MapPairs → ℕ → Type 0
TellsAt h i fs gs bit = (bit ≡ 1 → DiffersAt (cut_at h (map_at gs i)) (map_at fs i) (map_at (joined_maps h fs gs) i)) × (bit ≡ 0 → map_at (joined_maps h fs gs) i ≡ map_at fs i)

pub tells_at : (h b i : ℕ) (fs gs : List MapPairs) (set : ℕ) → HasChanged h b fs gs set
    → i < length fs → length gs ≡ length fs → TellsAt h i fs gs (bit_at set (b + i))
tells_at h b i [] gs set is there long = absurd (omega arith)
tells_at h b i (f ∷ fs) [] set is there long = absurd (omega (arith, long))
tells_at h b zero (f ∷ fs) (g ∷ gs) set (rest, later, how) there long =
    let first : b + zero ≡ b = omega arith in
    let clear : bit_at rest b ≡ 0 = none_below h (b + 1) fs gs rest b later (omega arith) in
    subst (λ k. TellsAt h zero (f ∷ fs) (g ∷ gs) (bit_at set k)) (sym first) (elim how [
      | inl same ↦ (
          let bit : bit_at set b ≡ 0 = ap (λ (s : ℕ). bit_at s b) same.1 ∙ clear in
          ((λ one. absurd (omega (arith, bit, one))), λ none. same.0)
          )
      | inr other ↦ (
          let bit : bit_at set b ≡ 1 = ap (λ (s : ℕ). bit_at s b) other.1 ∙ with_same rest b in
          ((λ one. other.0), λ none. absurd (omega (arith, bit, none)))
          )
    ])
tells_at h b (suc i) (f ∷ fs) (g ∷ gs) set (rest, later, how) there long =
    let next : b + suc i ≡ b + 1 + i = omega arith in
    let few : i < length fs = omega arith in
    let left : length gs ≡ length fs = omega (arith, long) in
    let told : TellsAt h i fs gs (bit_at rest (b + 1 + i)) = tells_at h (b + 1) i fs gs rest later few left in
    let bit : bit_at set (b + 1 + i) ≡ bit_at rest (b + 1 + i) = elim how [
      | inl same ↦ ap (λ (s : ℕ). bit_at s (b + 1 + i)) same.1
      | inr other ↦ ap (λ (s : ℕ). bit_at s (b + 1 + i)) other.1 ∙ with_other rest b (b + 1 + i) (λ at. absurd (omega (arith, at)))
    ] in
    subst (λ k. TellsAt h (suc i) (f ∷ fs) (g ∷ gs) (bit_at set k)) (sym next) (subst (TellsAt h i fs gs) (sym bit) told)

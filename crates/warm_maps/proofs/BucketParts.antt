-- What a test chooses of all pairs that passes only in one bucket is what it chooses of that
-- bucket's map.
use Rattle.std.proofs.Common.{◌≡◌, ℕ, Bool, true, false, not, List, [], ◌∷◌, ◌++◌, ◌&&◌, sym, ap, refl, ◌∙◌, arith, zero, suc, filter, ◌+◌, ◌<◌, ◌≤◌}
use Rattle.std.specs.List.{AllByRecursion}
use Rattle.std.specs.Ordering.{nat_cmp, is_le}
use Rattle.std.specs.BTreeMap.Range.{entries_between, range_contains}
use Rattle.std.specs.declared.ops.Bound.TheVariants.{Included, Excluded, Unbounded}
use Rattle.std.proofs.lemmas.Cmp.{ranked}
use Rattle.std.proofs.lemmas.List.{append-nil}
use Rattle.std.specs.declared.cmp.Ordering.TheVariants.{Less, Equal, Greater}
use Rattle.warm_stamps.proofs.DistinctLemmas.{by_cases}
use Rattle.warm_maps.specs.MapKeys.{first_key}
use Rattle.warm_maps.specs.MapPairs.{MapPairs}
use Rattle.warm_maps.specs.BucketMaps.{all_pairs, LiesIn, AreBuckets, PassesIn, map_at}
use Rattle.warm_maps.proofs.BucketLemmas.{filter-append}

abbrev chosen : (ℕ → Bool) → MapPairs → MapPairs
chosen test pairs = filter (λ e. test e.0) pairs

apart : (b c p : ℕ) → (b ≡ c → ⊥) → LiesIn b p → LiesIn c p → ⊥
apart b c p other in_one in_other =
    let begins : first_key b ≤ p = in_one.0 in
    let ends : p < first_key (b + 1) = in_one.1 in
    let from : first_key c ≤ p = in_other.0 in
    let to : p < first_key (c + 1) = in_other.1 in
    other (omega arith)

-- of another bucket's map it chooses none
none_of_map : (n c : ℕ) (test : ℕ → Bool) (m : MapPairs) → PassesIn n test → (n ≡ c → ⊥)
    → AllByRecursion (λ e. LiesIn c e.0) m → chosen test m ≡ []
none_of_map n c test [] passes other all = refl
none_of_map n c test (e ∷ m) passes other all = cases (test e.0) refl (none_of_map n c test m passes other all.1)
  where
    cases : (b : Bool) → test e.0 ≡ b → chosen test m ≡ [] → chosen test (e ∷ m) ≡ []
    cases true is later = absurd (apart n c e.0 other (passes e.0 is) all.0)
    cases false is later = rw is later

none_later : (n c : ℕ) (test : ℕ → Bool) (ms : List MapPairs) → PassesIn n test → n < c
    → AreBuckets c ms → chosen test (all_pairs ms) ≡ []
none_later n c test [] passes less are = refl
none_later n c test (m ∷ ms) passes less are =
    let later : n < c + 1 = omega arith in
    filter-append test m (all_pairs ms)
    ∙ ap (λ t. t ++ chosen test (all_pairs ms)) (none_of_map n c test m passes (λ same. omega arith) are.0)
    ∙ none_later n (c + 1) test ms passes later are.1

pub chosen_joined : (n b i : ℕ) (test : ℕ → Bool) (ms : List MapPairs) → n ≡ b + i → PassesIn n test
    → AreBuckets b ms → chosen test (map_at ms i) ≡ chosen test (all_pairs ms)
chosen_joined n b i test [] is passes are = refl
chosen_joined n b zero test (m ∷ ms) is passes are =
    let less : n < b + 1 = omega arith in
    sym (filter-append test m (all_pairs ms)
    ∙ ap (λ t. chosen test m ++ t) (none_later n (b + 1) test ms passes less are.1)
    ∙ append-nil (chosen test m))
chosen_joined n b (suc i) test (m ∷ ms) is passes are =
    let next : n ≡ b + 1 + i = omega arith in
    chosen_joined n (b + 1) i test ms next passes are.1
    ∙ sym (filter-append test m (all_pairs ms)
    ∙ ap (λ t. t ++ chosen test (all_pairs ms)) (none_of_map n b test m passes (λ same. omega arith) are.0))

-- ---- what lies between two keys of a bucket lies in it

from_start : (x y : ℕ) → is_le (nat_cmp x y) ≡ true → x ≤ y
from_start x y is = by_cases (nat_cmp x y) _
    (λ less. let lt : x < y = ranked x y Less (sym less) in omega arith)
    (λ tied. let same : x ≡ y = ranked x y Equal (sym tied) in omega arith)
    (λ more. let no : false ≡ true = sym (ap is_le more) ∙ is in absurd (cc))

before_end : (x y : ℕ) → not (is_le (nat_cmp x y)) ≡ true → y < x
before_end x y is = by_cases (nat_cmp x y) _
    (λ less. let no : false ≡ true = sym (ap (λ o. not (is_le o)) less) ∙ is in absurd (cc))
    (λ tied. let no : false ≡ true = sym (ap (λ o. not (is_le o)) tied) ∙ is in absurd (cc))
    (λ more. ranked x y Greater (sym more))

both : (a b : Bool) → (a && b) ≡ true → (a ≡ true) × (b ≡ true)
both true b is = (refl, is)
both false b is = let no : false ≡ true = is in absurd (cc)

pub from_first_on : (bucket : ℕ)
    → PassesIn bucket (range_contains nat_cmp (Included (first_key bucket))
    (Excluded (first_key (bucket + 1))))
from_first_on bucket k is =
    let parts = both (is_le (nat_cmp (first_key bucket) k)) _ is in
    (from_start (first_key bucket) k parts.0, before_end (first_key (bucket + 1)) k parts.1)

-- ---- all of a map

pub whole_map : (m : MapPairs) → entries_between nat_cmp Unbounded Unbounded m ≡ m
whole_map [] = refl
whole_map (e ∷ m) = ap (λ t. e ∷ t) (whole_map m)

-- A run merged with the map of its bucket is merged with all pairs.
use Rattle.std.proofs.Common.{◌≡◌, ℕ, ◌+◌, ◌<◌, Bool, true, false, List, [], ◌∷◌, ◌++◌, sym, ap, refl, ◌∙◌, subst, arith, length, Option, Some, None, IsSome, get_or, IfOk, OnOk}
use Rattle.std.specs.List.{AllByRecursion}
use Rattle.std.specs.Ordering.{is_eq, nat_cmp}
use Rattle.std.specs.declared.result.Result.{Result}
use Rattle.std.specs.declared.result.Result.TheVariants.{Ok, Err}
use Rattle.warm_stamps.proofs.DistinctLemmas.{is_equal}
use Rattle.warm_maps.specs.declared.hist.PageHist.{PageHist}
use Rattle.warm_maps.specs.MapPairs.{MapPairs}
use Rattle.warm_maps.specs.declared.bucket_map.BucketMap.{BucketMap}
use Rattle.warm_maps.specs.NearPairs.{full, fulls, AreMapsOf, IsMapOf}
use Rattle.warm_maps.specs.BucketMaps.{all_pairs, LiesIn, AreBuckets, map_at, with_map, found}
use Rattle.warm_maps.specs.Runs.{at_key, with_pairs}
use Rattle.warm_maps.specs.Walks.{joined_with, joined_pairs, merged, DiffersAt, TellsChange}
use Rattle.warm_maps.proofs.MapKeyOrder.{nat_order}
use Rattle.warm_maps.proofs.BucketLemmas.{find_joined}
use Rattle.warm_maps.proofs.BucketSteps.{AllIn, bucket_in, buckets_with, with_same}
use Rattle.warm_maps.proofs.FullMaps.{all_with, buckets_of, fulls_set, length_fulls, map_at_fulls}
use Rattle.warm_maps.proofs.NearParts.{full_inside}
use Rattle.warm_maps.proofs.RunPairs.{filled_joined, map_at-with}

-- what holds of the keys of a run
pub all_at : (P : ℕ → Type 0) (run : MapPairs) (key : ℕ)
    → AllByRecursion (λ (e : ℕ × PageHist). P e.0) run → IsSome (found key run) → P key
all_at P [] key all some = let no : false ≡ true = some in absurd (cc)
all_at P (e ∷ run) key all some = cases (is_eq (nat_cmp key e.0)) refl (all_at P run key all.1)
  where
    cases : (b : Bool) → is_eq (nat_cmp key e.0) ≡ b → (IsSome (found key run) → P key) → P key
    cases true here later =
        let same : key ≡ e.0 = nat_order.same key e.0 (is_equal (nat_cmp key e.0) here) in
        subst P (sym same) all.0
    cases false away later = later (rw away at some)

pub joined_all : (P : ℕ → Type 0) (old run : MapPairs)
    → AllByRecursion (λ (e : ℕ × PageHist). P e.0) run
    → AllByRecursion (λ (e : ℕ × PageHist). P e.0) (joined_pairs old run)
joined_all P old [] all = tt
joined_all P old (e ∷ run) all = cases (joined_with e.1 (found e.0 old)) (joined_all P old run all.1)
  where
    cases : (o : Option PageHist)
        → AllByRecursion (λ (x : ℕ × PageHist). P x.0) (joined_pairs old run)
        → AllByRecursion (λ (x : ℕ × PageHist). P x.0) (at_key e.0 o ++ joined_pairs old run)
    cases None rest = rest
    cases (Some h) rest = (all.0, rest)

-- what a run makes of the pairs of its bucket it makes of all pairs
joined_own : (b i : ℕ) (ms : List MapPairs) (run : MapPairs) → AreBuckets b ms → AllIn (b + i) run
    → joined_pairs (all_pairs ms) run ≡ joined_pairs (map_at ms i) run
joined_own b i ms [] are all = refl
joined_own b i ms (e ∷ run) are all =
    ap (λ x. at_key e.0 (joined_with e.1 x) ++ joined_pairs (all_pairs ms) run) (find_joined b i e.0 ms are all.0)
    ∙ ap (λ t. at_key e.0 (joined_with e.1 (found e.0 (map_at ms i))) ++ t) (joined_own b i ms run are all.1)

merged_joined : (i : ℕ) (ms : List MapPairs) (run : MapPairs) → AreBuckets 0 ms → i < length ms
    → AllIn (0 + i) run → AllIn (0 + i) (map_at ms i)
    → all_pairs (with_map ms i (merged (map_at ms i) run)) ≡ merged (all_pairs ms) run
merged_joined i ms run are there inside own =
    sym (ap (with_pairs (all_pairs ms)) (joined_own 0 i ms run are inside)
    ∙ filled_joined 0 i ms (joined_pairs (map_at ms i) run) are there (joined_all (LiesIn (0 + i)) (map_at ms i) run inside) own)

-- a bucket's number is counted from 0
in_own : (i : ℕ) (pairs : MapPairs) → AllIn i pairs → AllIn (0 + i) pairs
in_own i pairs inside = let same : i ≡ 0 + i = omega arith in subst (λ k. AllIn k pairs) same inside

differs_joined : (i : ℕ) (ms : List MapPairs) (run n : MapPairs) → AreBuckets 0 ms → i < length ms
    → AllIn (0 + i) run → AllIn (0 + i) n → DiffersAt run (map_at ms i) n
    → DiffersAt run (all_pairs ms) (all_pairs (with_map ms i n))
differs_joined i ms run n are there inside new differs =
    let key : ℕ = differs.0 in
    let lies : LiesIn (0 + i) key = all_at (LiesIn (0 + i)) run key inside differs.1 in
    let before : found key (all_pairs ms) ≡ found key (map_at ms i) = find_joined 0 i key ms are lies in
    let after : found key (all_pairs (with_map ms i n)) ≡ found key n = find_joined 0 i key (with_map ms i n) (buckets_with 0 i n ms are new) lies ∙ ap (found key) (map_at-with ms i n there) in
    (key, differs.1, λ same. differs.2 (sym after ∙ same ∙ before))

-- ---- the maps, with one in its place that a run was merged with

pub merged_in_own : {A E : Type 0} (r : Result A E) (i : ℕ) (d n : BucketMap) (ms : List BucketMap)
    (run old : MapPairs) → AreMapsOf 0 ms → i < length ms → AllIn i run
    → all_pairs (fulls 0 ms) ≡ old → OnOk r (full i n ≡ merged (full i (get_or ms i d)) run)
    → OnOk r (all_with ms i n ≡ merged old run)
merged_in_own (Err e) i d n ms run old are there inside view ok = tt
merged_in_own (Ok a) i d n ms run old are there inside view ok =
    let fs : List MapPairs = fulls 0 ms in
    let at : map_at fs i ≡ full i (get_or ms i d) = map_at_fulls i d ms there in
    let few : i < length fs = subst (λ k. i < k) (sym (length_fulls 0 ms)) there in
    let buckets = buckets_of 0 ms are in
    ap all_pairs (fulls_set i n ms)
    ∙ ap (λ t. all_pairs (with_map fs i t)) (ok ∙ ap (λ t. merged t run) (sym at))
    ∙ merged_joined i fs run buckets few (in_own i run inside) (bucket_in 0 i fs buckets)
    ∙ ap (λ t. merged t run) view

pub tells_in_own : {E : Type 0} (r : Result Bool E) (i : ℕ) (d n : BucketMap) (ms : List BucketMap)
    (run old : MapPairs) → AreMapsOf 0 ms → i < length ms → AllIn i run → IsMapOf i n
    → all_pairs (fulls 0 ms) ≡ old
    → IfOk r (λ changed. TellsChange changed run (full i (get_or ms i d)) (full i n))
    → IfOk r (λ changed. TellsChange changed run old (all_with ms i n))
tells_in_own (Err e) i d n ms run old are there inside is view tells = tt
tells_in_own (Ok b) i d n ms run old are there inside is view tells =
    let fs : List MapPairs = fulls 0 ms in
    let at : map_at fs i ≡ full i (get_or ms i d) = map_at_fulls i d ms there in
    let few : i < length fs = subst (λ k. i < k) (sym (length_fulls 0 ms)) there in
    let set : all_with ms i n ≡ all_pairs (with_map fs i (full i n)) = ap all_pairs (fulls_set i n ms) in (
      (λ yes.
          let differs : DiffersAt run (map_at fs i) (full i n) = subst (λ t. DiffersAt run t (full i n)) (sym at) (tells.0 yes) in
          subst (DiffersAt run old) (sym set) (subst (λ t. DiffersAt run t (all_pairs (with_map fs i (full i n)))) view
          (differs_joined i fs run (full i n) (buckets_of 0 ms are) few (in_own i run inside) (in_own i (full i n) (full_inside i n is)) differs))),
      λ no. set ∙ ap (λ t. all_pairs (with_map fs i t)) (tells.1 no ∙ sym at) ∙ ap all_pairs (with_same fs i) ∙ view,
    )

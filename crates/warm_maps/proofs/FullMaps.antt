-- The pairs of all buckets, and those of one of them.
use Rattle.std.proofs.Common.{◌≡◌, ℕ, List, [], ◌∷◌, sym, ap, subst, refl, ◌∙◌, arith, Option, length, zero, suc, ◌+◌, ◌<◌, slice_set, get_or, IfOk, OnErr}
use Rattle.std.specs.declared.result.Result.{Result}
use Rattle.std.specs.declared.result.Result.TheVariants.{Ok, Err}
use Rattle.warm_stamps.specs.declared.PageId.{PageId}
use Rattle.warm_stamps.specs.Buckets.{page_bucket}
use Rattle.warm_maps.specs.declared.hist.PageHist.{PageHist}
use Rattle.warm_maps.specs.declared.bucket_map.BucketMap.{BucketMap}
use Rattle.warm_maps.specs.declared.bucket_map.UndoNote.{UndoNote}
use Rattle.warm_maps.specs.MapKeys.{key_of_page}
use Rattle.warm_maps.specs.MapPairs.{MapPairs}
use Rattle.warm_maps.specs.NearPairs.{full, fulls, IsMapOf, AreMapsOf}
use Rattle.warm_maps.specs.BucketMaps.{all_pairs, LiesIn, AreBuckets, map_at, with_map, found, RecordsStamps}
use Rattle.warm_maps.specs.Undo.{put_back}
use Rattle.warm_maps.proofs.BucketLemmas.{find_joined}
use Rattle.warm_maps.proofs.BucketSteps.{with_same, records_joined, put_back_joined}
use Rattle.warm_maps.proofs.NearKeys.{own_bucket_of}
use Rattle.warm_maps.proofs.NearParts.{full_inside}

-- ---- one map of them

pub length_fulls : (b : ℕ) (ms : List BucketMap) → length (fulls b ms) ≡ length ms
length_fulls b [] = refl
length_fulls b (m ∷ ms) = ap suc (length_fulls (b + 1) ms)

pub length_set : (ms : List BucketMap) (i : ℕ) (m : BucketMap)
    → length (slice_set ms i m) ≡ length ms
length_set [] i m = refl
length_set (x ∷ ms) zero m = refl
length_set (x ∷ ms) (suc i) m = ap suc (length_set ms i m)

first_number : (b : ℕ) → b ≡ b + zero
first_number b = omega arith

next_number : (b i : ℕ) → b + 1 + i ≡ b + suc i
next_number b i = omega arith

fulls_set_at : (b i : ℕ) (n : BucketMap) (ms : List BucketMap)
    → fulls b (slice_set ms i n) ≡ with_map (fulls b ms) i (full (b + i) n)
fulls_set_at b i n [] = refl
fulls_set_at b zero n (m ∷ ms) = ap (λ k. full k n ∷ fulls (b + 1) ms) (first_number b)
fulls_set_at b (suc i) n (m ∷ ms) = ap (λ t. full b m ∷ t) (fulls_set_at (b + 1) i n ms ∙ ap (λ k. with_map (fulls (b + 1) ms) i (full k n)) (next_number b i))

map_at_fulls_at : (b i : ℕ) (d : BucketMap) (ms : List BucketMap) → i < length ms
    → map_at (fulls b ms) i ≡ full (b + i) (get_or ms i d)
map_at_fulls_at b i d [] there = absurd (omega arith)
map_at_fulls_at b zero d (m ∷ ms) there = ap (λ k. full k m) (first_number b)
map_at_fulls_at b (suc i) d (m ∷ ms) there =
    let left : i < length ms = omega arith in
    map_at_fulls_at (b + 1) i d ms left ∙ ap (λ k. full k (get_or ms i d)) (next_number b i)

map_of_at : (b i : ℕ) (d : BucketMap) (ms : List BucketMap) → AreMapsOf b ms → i < length ms
    → IsMapOf (b + i) (get_or ms i d)
map_of_at b i d [] are there = absurd (omega arith)
map_of_at b zero d (m ∷ ms) are there = subst (λ k. IsMapOf k m) (first_number b) are.0
map_of_at b (suc i) d (m ∷ ms) are there =
    let left : i < length ms = omega arith in
    subst (λ k. IsMapOf k (get_or ms i d)) (next_number b i) (map_of_at (b + 1) i d ms are.1 left)

maps_with_at : (b i : ℕ) (n : BucketMap) (ms : List BucketMap) → AreMapsOf b ms → IsMapOf (b + i) n
    → AreMapsOf b (slice_set ms i n)
maps_with_at b i n [] are is = tt
maps_with_at b zero n (m ∷ ms) are is = (subst (λ k. IsMapOf k n) (sym (first_number b)) is, are.1)
maps_with_at b (suc i) n (m ∷ ms) are is = (are.0, maps_with_at (b + 1) i n ms are.1 (subst (λ k. IsMapOf k n) (sym (next_number b i)) is))

pub buckets_of : (b : ℕ) (ms : List BucketMap) → AreMapsOf b ms → AreBuckets b (fulls b ms)
buckets_of b [] are = tt
buckets_of b (m ∷ ms) are = (full_inside b m are.0, buckets_of (b + 1) ms are.1)

-- ---- the map of the bucket of number i of all 64

same_number : (i : ℕ) → 0 + i ≡ i
same_number i = omega arith

pub fulls_set : (i : ℕ) (n : BucketMap) (ms : List BucketMap)
    → fulls 0 (slice_set ms i n) ≡ with_map (fulls 0 ms) i (full i n)
fulls_set i n ms = fulls_set_at 0 i n ms ∙ ap (λ k. with_map (fulls 0 ms) i (full k n)) (same_number i)

pub map_at_fulls : (i : ℕ) (d : BucketMap) (ms : List BucketMap) → i < length ms
    → map_at (fulls 0 ms) i ≡ full i (get_or ms i d)
map_at_fulls i d ms there = map_at_fulls_at 0 i d ms there ∙ ap (λ k. full k (get_or ms i d)) (same_number i)

pub map_of : (i : ℕ) (d : BucketMap) (ms : List BucketMap) → AreMapsOf 0 ms → i < length ms
    → IsMapOf i (get_or ms i d)
map_of i d ms are there = subst (λ k. IsMapOf k (get_or ms i d)) (same_number i) (map_of_at 0 i d ms are there)

pub maps_with : (i : ℕ) (n : BucketMap) (ms : List BucketMap) → AreMapsOf 0 ms → IsMapOf i n
    → AreMapsOf 0 (slice_set ms i n)
maps_with i n ms are is = maps_with_at 0 i n ms are (subst (λ k. IsMapOf k n) (sym (same_number i)) is)

lies_at : (i p : ℕ) → LiesIn i p → LiesIn (0 + i) p
lies_at i p lies = subst (λ k. LiesIn k p) (sym (same_number i)) lies

pub found_full : (i p : ℕ) (d : BucketMap) (ms : List BucketMap) → AreMapsOf 0 ms → i < length ms
    → LiesIn i p → found p (full i (get_or ms i d)) ≡ found p (all_pairs (fulls 0 ms))
found_full i p d ms are there lies = ap (found p) (sym (map_at_fulls i d ms there)) ∙ sym (find_joined 0 i p (fulls 0 ms) (buckets_of 0 ms are) (lies_at i p lies))

abbrev pub all_with : List BucketMap → ℕ → BucketMap → MapPairs
all_with ms i n = all_pairs (fulls 0 (slice_set ms i n))

-- what the map of the page's bucket records, all maps record
pub recorded : {A E : Type 0} (r : Result A E) (note : A → Option UndoNote) (i p : ℕ)
    (page : PageId) (more : PageHist) (d n : BucketMap) (ms : List BucketMap) (old : MapPairs) → AreMapsOf 0 ms
    → i < length ms → LiesIn i p → all_pairs (fulls 0 ms) ≡ old
    → IfOk r (λ change. RecordsStamps (full i (get_or ms i d)) page p more (note change) (full i n))
    → IfOk r (λ change. RecordsStamps old page p more (note change) (all_with ms i n))
recorded (Ok change) note i p page more d n ms old are there lies view records =
    let few : i < length (fulls 0 ms) = subst (λ k. i < k) (sym (length_fulls 0 ms)) there in
    let own : RecordsStamps (map_at (fulls 0 ms) i) page p more (note change) (full i n) = subst (λ k. RecordsStamps k page p more (note change) (full i n)) (sym (map_at_fulls i d ms there)) records in
    subst (λ k. RecordsStamps k page p more (note change) (all_with ms i n)) view
    (subst (λ fs. RecordsStamps (all_pairs (fulls 0 ms)) page p more (note change) (all_pairs fs)) (sym (fulls_set i n ms))
    (records_joined 0 i page p more (note change) (fulls 0 ms) (full i n) (buckets_of 0 ms are) (lies_at i p lies) few own))
recorded (Err e) note i p page more d n ms old are there lies view records = tt

-- the same, of the bucket that the page is in
pub recorded_in_bucket : {A E : Type 0} (r : Result A E) (note : A → Option UndoNote) (i : ℕ)
    (page : PageId) (more : PageHist) (d n : BucketMap) (ms : List BucketMap) (old : MapPairs) → page.dev < 65536
    → page.no < 18446744073709551616 → AreMapsOf 0 ms → length ms ≡ 64 → i < 64
    → i ≡ page_bucket page → all_pairs (fulls 0 ms) ≡ old
    → IfOk r (λ change. RecordsStamps (full (page_bucket page) (get_or ms i d)) page (key_of_page page) more (note change) (full (page_bucket page) n))
    → IfOk r (λ change. RecordsStamps old page (key_of_page page) more (note change) (all_with ms i n))
recorded_in_bucket r note i page more d n ms old low fits are long below own view records =
    recorded r note i (key_of_page page) page more d n ms old are (subst (λ k. i < k) (sym long) below)
    (subst (λ b. LiesIn b (key_of_page page)) (sym own) (own_bucket_of page low fits)) view
    (subst (λ b. IfOk r (λ change. RecordsStamps (full b (get_or ms i d)) page (key_of_page page) more (note change) (full b n))) (sym own) records)

pub unchanged : {A E : Type 0} (r : Result A E) (i : ℕ) (d n : BucketMap) (ms : List BucketMap)
    (old : MapPairs) → i < length ms → all_pairs (fulls 0 ms) ≡ old
    → OnErr r (full i n ≡ full i (get_or ms i d)) → OnErr r (all_with ms i n ≡ old)
unchanged (Ok a) i d n ms old there view same = tt
unchanged (Err e) i d n ms old there view same =
    ap all_pairs (fulls_set i n ms)
    ∙ ap (λ t. all_pairs (with_map (fulls 0 ms) i t)) (same ∙ sym (map_at_fulls i d ms there))
    ∙ ap all_pairs (with_same (fulls 0 ms) i)
    ∙ view

pub put_back_with : (i p : ℕ) (known : Option PageHist) (d n : BucketMap) (ms : List BucketMap)
    (old : MapPairs) → AreMapsOf 0 ms → i < length ms → LiesIn i p → all_pairs (fulls 0 ms) ≡ old
    → full i n ≡ put_back p known (full i (get_or ms i d)) → all_with ms i n ≡ put_back p known old
put_back_with i p known d n ms old are there lies view back =
    ap all_pairs (fulls_set i n ms)
    ∙ ap (λ t. all_pairs (with_map (fulls 0 ms) i t)) (back ∙ ap (put_back p known) (sym (map_at_fulls i d ms there)))
    ∙ sym (put_back_joined 0 i p known (fulls 0 ms) (buckets_of 0 ms are) (lies_at i p lies))
    ∙ ap (put_back p known) view

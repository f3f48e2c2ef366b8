-- How many pairs the maps of the buckets hold, and which maps hold none or the same.
use Rattle.std.proofs.Common.{◌≡◌, ℕ, List, [], ◌∷◌, ◌++◌, sym, ap, refl, ◌∙◌, subst, arith, length, zero, suc, get_or, Option, Some, None, ◌+◌, ◌*◌, ◌<◌, ◌≤◌}
use Rattle.std.specs.Fn.{Mut, Called}
use Rattle.std.specs.Array.{IsFromFnResult}
use Rattle.std.specs.List.{AllByRecursion, AllZip}
use Rattle.std.specs.BTreeMap.{is_at, insert_entry}
use Rattle.std.specs.Ordering.{nat_cmp}
use Rattle.std.proofs.lemmas.List.Elements.{same_from_all_zip}
use Rattle.warm_maps.specs.declared.hist.PageHist.{PageHist}
use Rattle.warm_maps.specs.MapPairs.{MapPairs}
use Rattle.warm_maps.specs.BucketMaps.{all_pairs}
use Rattle.warm_maps.specs.NearPairs.{count_of, full, fulls, widened, AreMapsOf, IsBare, IsFar, IsMapOf}
use Rattle.warm_maps.specs.declared.bucket_map.BucketMap.{BucketMap}
use Rattle.warm_maps.proofs.NearParts.{length_full}
use Rattle.warm_maps.specs.Undo.{put_back}
use Rattle.warm_stamps.proofs.DistinctLemmas.{by_cases}
use Rattle.std.proofs.lemmas.List.{length-append}
use Rattle.std.specs.Map.{remove_entry, set_value}

-- ---- how many pairs there are

pub few_counted : (b : ℕ) (ms : List BucketMap) → AreMapsOf b ms
    → count_of ms ≤ length ms * 288230376151711742
few_counted b [] all = omega arith
few_counted b (m ∷ ms) all =
    let near : length m.near.entries < 144115188075855872 = all.0.near_few in
    let far : length m.far.entries < 144115188075855872 = all.0.far_few in
    let rest : count_of ms ≤ length ms * 288230376151711742 = few_counted (b + 1) ms all.1 in
    omega arith

pub all_counted : (b : ℕ) (ms : List BucketMap) → length (all_pairs (fulls b ms)) ≡ count_of ms
all_counted b [] = refl
all_counted b (m ∷ ms) = length-append (full b m) (all_pairs (fulls (b + 1) ms)) ∙ ap (λ (n : ℕ). n + length (all_pairs (fulls (b + 1) ms))) (length_full b m) ∙ ap (λ (n : ℕ). length m.near.entries + length m.far.entries + n) (all_counted (b + 1) ms)

length-set_value : (p : ℕ) (h : PageHist) (m : MapPairs)
    → length (set_value (is_at (nat_cmp p)) m h) ≡ length m
length-set_value p h [] = refl
length-set_value p h (e ∷ m) = by_cases (nat_cmp p e.0) _
    (λ pe. rw pe (ap suc (length-set_value p h m)))
    (λ pe. rw pe refl)
    (λ pe. rw pe (ap suc (length-set_value p h m)))

length-remove : (p : ℕ) (m : MapPairs) → length (remove_entry (is_at (nat_cmp p)) m) ≤ length m
length-remove p [] = omega arith
length-remove p (e ∷ m) =
    let rest : length (remove_entry (is_at (nat_cmp p)) m) ≤ length m = length-remove p m in
    by_cases (nat_cmp p e.0) _
    (λ pe. rw pe (omega arith))
    (λ pe. rw pe (omega arith))
    (λ pe. rw pe (omega arith))

pub few_put_back : (p : ℕ) (known : Option PageHist) (m : MapPairs)
    → length (put_back p known m) ≤ length m
few_put_back p None m = length-remove p m
few_put_back p (Some h) m = omega (arith, length-set_value p h m)

pub few_inserted : (p : ℕ) (h : PageHist) (m : MapPairs)
    → length (insert_entry nat_cmp m p h) ≤ length m + 1
few_inserted p h [] = omega arith
few_inserted p h (e ∷ m) =
    let rest : length (insert_entry nat_cmp m p h) ≤ length m + 1 = few_inserted p h m in
    by_cases (nat_cmp p e.0) _
    (λ pe. rw pe (omega arith))
    (λ pe. rw pe (omega arith))
    (λ pe. rw pe (omega arith))

-- ---- maps that hold nothing

abbrev pub AreEmpty : List BucketMap → Type 0
AreEmpty ms = (i : ℕ) (m : BucketMap) → i < length ms → IsBare (get_or ms i m)

-- maps are empty that calls gave which give empty ones
pub each_made : {F : Type 0} (g : Mut F (ℕ × Unit {0}) BucketMap) (f : F) (ms : List BucketMap)
    (n : ℕ) → ((p : F) (i : ℕ) (m : BucketMap) (q : F) → Called g p (i, tt) m q → IsBare m)
    → IsFromFnResult g f ms n → AreEmpty ms
each_made g f ms n told made i m less =
    let long : length ms ≡ n = made.long in
    let call : _ = made.at i m (omega arith) in
    told call.0 i (get_or ms i m) call.1 call.2

pub empty_full : (b : ℕ) (m : BucketMap) → IsBare m → full b m ≡ []
empty_full b m bare = ap (λ t. widened b t ++ m.far.entries) bare.0 ∙ bare.1

pub empty_joined : (b : ℕ) (ms : List BucketMap) → AreEmpty ms → all_pairs (fulls b ms) ≡ []
empty_joined b [] none = refl
empty_joined b (m ∷ ms) none = ap (λ t. t ++ all_pairs (fulls (b + 1) ms)) (empty_full b m (none zero m (omega arith))) ∙ empty_joined (b + 1) ms (λ i x less. none (suc i) x (omega arith))

pub empty_map : (b : ℕ) (m : BucketMap) → IsBare m → IsMapOf b m
empty_map b m bare =
    let none_near : length m.near.entries ≡ 0 = ap length bare.0 in
    let none_far : length m.far.entries ≡ 0 = ap length bare.1 in
    record {
      near = subst (AllByRecursion (λ (e : ℕ × PageHist). e.0 < 18446744073709551616)) (sym bare.0) tt;
      far = subst (AllByRecursion (λ (e : ℕ × PageHist). IsFar b e.0)) (sym bare.1) tt;
      near_few = omega (arith, none_near);
      far_few = omega (arith, none_far);
    }

pub empty_maps : (b : ℕ) (ms : List BucketMap) → AreEmpty ms → AreMapsOf b ms
empty_maps b [] none = tt
empty_maps b (m ∷ ms) none = (empty_map b m (none zero m (omega arith)), empty_maps (b + 1) ms (λ i x less. none (suc i) x (omega arith)))

-- ---- maps that hold the same

abbrev SamePairs : MapPairs → MapPairs → Type 0
SamePairs m n = AllZip (λ (x y : ℕ × PageHist). (y.0 ≡ x.0) × (y.1 ≡ x.1)) m n

abbrev pub SameMaps : BucketMap → BucketMap → Type 0
SameMaps m n = SamePairs m.near.entries n.near.entries × SamePairs m.far.entries n.far.entries

same_pairs : (m n : MapPairs) → SamePairs m n → n ≡ m
same_pairs m n all = same_from_all_zip _ m n all (λ x y is. λ i. (is.0 i, is.1 i))

pub same_fulls : (b : ℕ) (ms ns : List BucketMap) → AllZip SameMaps ms ns → fulls b ns ≡ fulls b ms
same_fulls b [] [] all = refl
same_fulls b [] (n ∷ ns) all = absurd all
same_fulls b (m ∷ ms) [] all = absurd all
same_fulls b (m ∷ ms) (n ∷ ns) all =
    let near : n.near.entries ≡ m.near.entries = same_pairs m.near.entries n.near.entries all.0.0 in
    let far : n.far.entries ≡ m.far.entries = same_pairs m.far.entries n.far.entries all.0.1 in
    let rest : fulls (b + 1) ns ≡ fulls (b + 1) ms = same_fulls (b + 1) ms ns all.1 in
    λ i. (widened b (near i) ++ far i) ∷ rest i

pub same_maps : (b : ℕ) (ms ns : List BucketMap) → AllZip SameMaps ms ns → AreMapsOf b ms
    → AreMapsOf b ns
same_maps b [] [] all are = tt
same_maps b [] (n ∷ ns) all are = absurd all
same_maps b (m ∷ ms) [] all are = absurd all
same_maps b (m ∷ ms) (n ∷ ns) all are =
    let near : n.near.entries ≡ m.near.entries = same_pairs m.near.entries n.near.entries all.0.0 in
    let far : n.far.entries ≡ m.far.entries = same_pairs m.far.entries n.far.entries all.0.1 in
    let few_near : length n.near.entries ≡ length m.near.entries = ap length near in
    let few_far : length n.far.entries ≡ length m.far.entries = ap length far in
    let is : IsMapOf b n = record {
      near = subst (AllByRecursion (λ (e : ℕ × PageHist). e.0 < 18446744073709551616)) (sym near) are.0.near;
      far = subst (AllByRecursion (λ (e : ℕ × PageHist). IsFar b e.0)) (sym far) are.0.far;
      near_few = omega (arith, few_near, are.0.near_few);
      far_few = omega (arith, few_far, are.0.far_few);
    } in
    (is, same_maps (b + 1) ms ns all.1 are.1)

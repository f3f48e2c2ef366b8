-- Near pairs that are merged bucket by bucket are merged with all pairs.
use Rattle.std.proofs.Common.{◌≡◌, ℕ, ◌+◌, ◌<◌, ◌≤◌, zero, suc, inl, inr, List, [], ◌∷◌, ◌++◌, sym, ap, refl, ◌∙◌, subst, arith, filter, length, IfOk, OnErr, OnOk}
use Rattle.std.specs.Int.{bit_at}
use Rattle.std.proofs.lemmas.List.{append-nil}
use Rattle.std.specs.declared.result.Result.{Result}
use Rattle.std.specs.declared.result.Result.TheVariants.{Ok, Err}
use Rattle.warm_maps.specs.declared.hist.PageHist.{PageHist}
use Rattle.warm_maps.specs.declared.bucket_map.BucketMap.{BucketMap}
use Rattle.warm_maps.specs.MapKeys.{first_key, first_far_key, full_key, IsMapKey}
use Rattle.warm_maps.specs.MapPairs.{MapPairs}
use Rattle.warm_maps.specs.BucketMaps.{all_pairs, AreBuckets, KeysAscend, LiesIn, map_at}
use Rattle.warm_maps.specs.Cuts.{cut_at}
use Rattle.warm_maps.specs.NearPairs.{full, fulls, near_pairs, far_pairs, widened, AreMapsOf, IsFar, IsMapOf}
use Rattle.warm_maps.specs.Walks.{joined_pairs, merged, DiffersAt}
use Rattle.warm_maps.specs.NearJoins.{joined_maps, DiffersIn, EachAscends, EachFew, HasChanged, IsNear, SamePairsIn, NoFar, TellsBuckets}
use Rattle.warm_maps.proofs.BucketLemmas.{find_joined}
use Rattle.warm_maps.proofs.BucketParts.{chosen_joined}
use Rattle.warm_maps.proofs.BucketSteps.{bucket_in, rise_first, rise_later}
use Rattle.warm_maps.proofs.CutLemmas.{all_left}
use Rattle.warm_maps.proofs.FullMaps.{buckets_of, length_fulls}
use Rattle.warm_maps.proofs.JoinedBuckets.{TellsAt, all_joined, tells_at}
use Rattle.warm_maps.proofs.MergedBuckets.{all_at, joined_all}
use Rattle.warm_maps.proofs.NearKeys.{full_keeps, near_before_far, near_inside}
use Rattle.warm_maps.proofs.NearMerges.{all_put, differs_near, merged_near}
use Rattle.warm_maps.proofs.NearParts.{AllKeys, all_append}
use Rattle.warm_maps.proofs.WithKeys.{all_with, cut_with, rises_back}

-- ---- maps without far pages

all_first : (P : ℕ → Type 0) (m n : MapPairs) → AllKeys P (m ++ n) → AllKeys P m
all_first P [] n all = tt
all_first P (e ∷ m) n all = (all.0, all_first P m n all.1)

all_later : (P : ℕ → Type 0) (m n : MapPairs) → AllKeys P (m ++ n) → AllKeys P n
all_later P [] n all = all
all_later P (e ∷ m) n all = all_later P m n all.1

is_near : (b k : ℕ) → first_key b ≤ k → k < first_far_key b → IsNear k
is_near b k from to = omega arith

near_one : (b : ℕ) (r : BucketMap) → IsMapOf b r → r.far.entries ≡ [] → AllKeys IsNear (full b r)
near_one b r is none = all_append IsNear (widened b r.near.entries) r.far.entries
    (all_with (full_key b) (λ k. k < 18446744073709551616) IsNear (λ k fits. is_near b (full_key b k) (near_inside b k fits).0 (near_before_far b k fits)) r.near.entries is.near)
    (subst (AllKeys IsNear) (sym none) tt)

pub near_all : (b : ℕ) (rs : List BucketMap) → AreMapsOf b rs → NoFar rs
    → AllKeys IsNear (all_pairs (fulls b rs))
near_all b [] are none = tt
near_all b (r ∷ rs) are none = all_append IsNear (full b r) (all_pairs (fulls (b + 1) rs)) (near_one b r are.0 none.0) (near_all (b + 1) rs are.1 none.1)

far_none : (b : ℕ) (far : MapPairs) → AllKeys (IsFar b) far → AllKeys IsNear far → far ≡ []
far_none b [] are near = refl
far_none b (e ∷ far) are near =
    let from : first_far_key b ≤ e.0 = are.0.0 in
    let to : e.0 < first_key (b + 1) = are.0.1 in
    let low : IsNear e.0 = near.0 in
    absurd (omega arith)

pub no_far : (b : ℕ) (rs : List BucketMap) → AreMapsOf b rs
    → AllKeys IsNear (all_pairs (fulls b rs)) → NoFar rs
no_far b [] are near = tt
no_far b (r ∷ rs) are near = (
  far_none b r.far.entries are.0.far (all_later IsNear (widened b r.near.entries) r.far.entries (all_first IsNear (full b r) (all_pairs (fulls (b + 1) rs)) near)),
  no_far (b + 1) rs are.1 (all_later IsNear (full b r) (all_pairs (fulls (b + 1) rs)) near),
)

-- ---- the near maps rise, and are small

pub near_rise : (b : ℕ) (ms : List BucketMap) → KeysAscend (all_pairs (fulls b ms))
    → EachAscends (near_pairs ms)
near_rise b [] rise = tt
near_rise b (m ∷ ms) rise = (
  rises_back (full_key b) (full_keeps b) m.near.entries (rise_first (widened b m.near.entries) m.far.entries (rise_first (full b m) (all_pairs (fulls (b + 1) ms)) rise)),
  near_rise (b + 1) ms (rise_later (full b m) (all_pairs (fulls (b + 1) ms)) rise),
)

pub near_few : (b : ℕ) (ms : List BucketMap) → AreMapsOf b ms → EachFew (near_pairs ms)
near_few b [] are = tt
near_few b (m ∷ ms) are = (are.0.near_few, near_few (b + 1) ms are.1)

-- ---- a bucket

module _ (h b : ℕ) (m r : BucketMap) (is : IsMapOf b m) (also : IsMapOf b r)
    (none : r.far.entries ≡ []) where
  cut_is : cut_at h (full b r) ≡ widened b (cut_at h r.near.entries)
  cut_is =
      ap (λ t. cut_at h (widened b r.near.entries ++ t)) none
      ∙ ap (cut_at h) (append-nil (widened b r.near.entries))
      ∙ cut_with (full_key b) h r.near.entries

  small : AllKeys (λ k. k < 18446744073709551616) (cut_at h r.near.entries)
  small = all_left (λ k. k < 18446744073709551616) h r.near.entries also.near

  merged_is : merged (full b m) (cut_at h (full b r))
      ≡ widened b (merged m.near.entries (cut_at h r.near.entries)) ++ m.far.entries
  merged_is = ap (merged (full b m)) cut_is ∙ merged_near b m.far.entries is.far m.near.entries (cut_at h r.near.entries) small

  joined_full : (n : BucketMap) → n.near.entries ≡ merged m.near.entries (cut_at h r.near.entries)
      → n.far.entries ≡ m.far.entries → full b n ≡ merged (full b m) (cut_at h (full b r))
  joined_full n near far =
      ap (λ t. widened b t ++ n.far.entries) near
      ∙ ap (λ t. widened b (merged m.near.entries (cut_at h r.near.entries)) ++ t) far
      ∙ sym merged_is

  joined_map : (n : BucketMap) → n.near.entries ≡ merged m.near.entries (cut_at h r.near.entries)
      → n.far.entries ≡ m.far.entries → length n.near.entries < 144115188075855872 → IsMapOf b n
  joined_map n near far few =
      let as_many : length n.far.entries ≡ length m.far.entries = ap length far in
      record {
        near = subst (AllKeys (λ k. k < 18446744073709551616)) (sym near)
            (all_put (λ k. k < 18446744073709551616) m.near.entries (joined_pairs m.near.entries (cut_at h r.near.entries)) is.near (joined_all (λ k. k < 18446744073709551616) m.near.entries (cut_at h r.near.entries) small));
        far = subst (AllKeys (IsFar b)) (sym far) is.far;
        near_few = few;
        far_few = omega (arith, as_many, is.far_few);
      }

  same_full : merged m.near.entries (cut_at h r.near.entries) ≡ m.near.entries
      → merged (full b m) (cut_at h (full b r)) ≡ full b m
  same_full same = merged_is ∙ ap (λ t. widened b t ++ m.far.entries) same

  differs_full : DiffersAt (cut_at h r.near.entries) m.near.entries
      (merged m.near.entries (cut_at h r.near.entries))
      → DiffersAt (cut_at h (full b r)) (full b m) (merged (full b m) (cut_at h (full b r)))
  differs_full differs =
      subst (λ t. DiffersAt t (full b m) (merged (full b m) (cut_at h (full b r)))) (sym cut_is)
      (subst (DiffersAt (widened b (cut_at h r.near.entries)) (full b m)) (sym merged_is)
      (differs_near b m.far.entries is.far m.near.entries (cut_at h r.near.entries) (merged m.near.entries (cut_at h r.near.entries)) small differs))

-- ---- all buckets

pub joined_fulls : (h b : ℕ) (ms ns rs : List BucketMap)
    → near_pairs ns ≡ joined_maps h (near_pairs ms) (near_pairs rs) → far_pairs ns ≡ far_pairs ms
    → AreMapsOf b ms → AreMapsOf b rs → NoFar rs → length rs ≡ length ms → EachFew (near_pairs ns)
    → (fulls b ns ≡ joined_maps h (fulls b ms) (fulls b rs)) × AreMapsOf b ns
    × (length ns ≡ length ms)
joined_fulls h b [] [] rs near far are also none long few = (refl, tt, refl)
joined_fulls h b [] (n ∷ ns) rs near far are also none long few = absurd (cc)
joined_fulls h b (m ∷ ms) ns [] near far are also none long few = absurd (omega (arith, long))
joined_fulls h b (m ∷ ms) [] (r ∷ rs) near far are also none long few = absurd (cc)
joined_fulls h b (m ∷ ms) (n ∷ ns) (r ∷ rs) near far are also none long few =
    let first_near : n.near.entries ≡ merged m.near.entries (cut_at h r.near.entries) = cc in
    let first_far : n.far.entries ≡ m.far.entries = cc in
    let later_near : near_pairs ns ≡ joined_maps h (near_pairs ms) (near_pairs rs) = cc in
    let later_far : far_pairs ns ≡ far_pairs ms = cc in
    let left : length rs ≡ length ms = omega (arith, long) in
    let rest = joined_fulls h (b + 1) ms ns rs later_near later_far are.1 also.1 none.1 left few.1 in (
      ap (λ t. t ∷ fulls (b + 1) ns) (joined_full h b m r are.0 also.0 none.0 n first_near first_far) ∙ ap (λ t. merged (full b m) (cut_at h (full b r)) ∷ t) rest.0,
      (joined_map h b m r are.0 also.0 none.0 n first_near first_far few.0, rest.1),
      ap suc rest.2,
    )

-- if nothing was merged
pub kept_fulls : (b : ℕ) (ms ns : List BucketMap) → near_pairs ns ≡ near_pairs ms
    → far_pairs ns ≡ far_pairs ms → AreMapsOf b ms
    → (fulls b ns ≡ fulls b ms) × AreMapsOf b ns × (length ns ≡ length ms)
kept_fulls b [] [] near far are = (refl, tt, refl)
kept_fulls b [] (n ∷ ns) near far are = absurd (cc)
kept_fulls b (m ∷ ms) [] near far are = absurd (cc)
kept_fulls b (m ∷ ms) (n ∷ ns) near far are =
    let first_near : n.near.entries ≡ m.near.entries = cc in
    let first_far : n.far.entries ≡ m.far.entries = cc in
    let later_near : near_pairs ns ≡ near_pairs ms = cc in
    let later_far : far_pairs ns ≡ far_pairs ms = cc in
    let few_near : length n.near.entries ≡ length m.near.entries = ap length first_near in
    let few_far : length n.far.entries ≡ length m.far.entries = ap length first_far in
    let is : IsMapOf b n = record {
      near = subst (AllKeys (λ k. k < 18446744073709551616)) (sym first_near) are.0.near;
      far = subst (AllKeys (IsFar b)) (sym first_far) are.0.far;
      near_few = omega (arith, few_near, are.0.near_few);
      far_few = omega (arith, few_far, are.0.far_few);
    } in
    let rest = kept_fulls (b + 1) ms ns later_near later_far are.1 in (
      ap (λ t. (widened b t ++ n.far.entries) ∷ fulls (b + 1) ns) first_near ∙ ap (λ t. (widened b m.near.entries ++ t) ∷ fulls (b + 1) ns) first_far ∙ ap (λ t. full b m ∷ t) rest.0,
      (is, rest.1),
      ap suc rest.2,
    )

changed_fulls : (h b : ℕ) (ms rs : List BucketMap) (set : ℕ) → AreMapsOf b ms → AreMapsOf b rs
    → NoFar rs → HasChanged h b (near_pairs ms) (near_pairs rs) set
    → HasChanged h b (fulls b ms) (fulls b rs) set
changed_fulls h b [] rs set are also none is = is
changed_fulls h b (m ∷ ms) [] set are also none is = is
changed_fulls h b (m ∷ ms) (r ∷ rs) set are also none (rest, later, how) = (
  rest,
  changed_fulls h (b + 1) ms rs rest are.1 also.1 none.1 later,
  elim how [
    | inl same ↦ inl (same_full h b m r are.0 also.0 none.0 same.0, same.1)
    | inr other ↦ inr (differs_full h b m r are.0 also.0 none.0 other.0, other.1)
  ],
)

-- ---- all pairs

map_all : (P : ℕ → Type 0) (i : ℕ) (ms : List MapPairs) → AllKeys P (all_pairs ms)
    → AllKeys P (map_at ms i)
map_all P i [] all = tt
map_all P zero (m ∷ ms) all = all_first P m (all_pairs ms) all
map_all P (suc i) (m ∷ ms) all = map_all P i ms (all_later P m (all_pairs ms) all)

pub pairs_joined : (h : ℕ) (ms ns rs : List BucketMap) (old more : MapPairs)
    → fulls 0 ns ≡ joined_maps h (fulls 0 ms) (fulls 0 rs) → AreMapsOf 0 ms → AreMapsOf 0 rs
    → length rs ≡ length ms → all_pairs (fulls 0 ms) ≡ old → all_pairs (fulls 0 rs) ≡ more
    → all_pairs (fulls 0 ns) ≡ merged old (cut_at h more)
pairs_joined h ms ns rs old more joined are also long view other =
    ap all_pairs joined
    ∙ all_joined h 0 (fulls 0 ms) (fulls 0 rs) (buckets_of 0 ms are) (buckets_of 0 rs also) (length_fulls 0 rs ∙ long ∙ sym (length_fulls 0 ms))
    ∙ ap (λ t. merged t (cut_at h (all_pairs (fulls 0 rs)))) view
    ∙ ap (λ t. merged old (cut_at h t)) other

same_number : (i : ℕ) → 0 + i ≡ i
same_number i = omega arith

tells_bucket : (h i bit : ℕ) (fs gs : List MapPairs) → AreBuckets 0 fs → AreBuckets 0 gs
    → AreBuckets 0 (joined_maps h fs gs) → AllKeys IsMapKey (all_pairs gs) → TellsAt h i fs gs bit
    → (bit ≡ 1 → DiffersIn i (all_pairs fs) (all_pairs (joined_maps h fs gs)))
    × (bit ≡ 0 → SamePairsIn i (all_pairs fs) (all_pairs (joined_maps h fs gs)))
tells_bucket h i bit fs gs are also new keys tells = (
  (λ one.
      let differs = tells.0 one in
      let key : ℕ = differs.0 in
      let lies : LiesIn (0 + i) key = all_at (LiesIn (0 + i)) (cut_at h (map_at gs i)) key (all_left (LiesIn (0 + i)) h (map_at gs i) (bucket_in 0 i gs also)) differs.1 in
      let is : IsMapKey key = all_at IsMapKey (cut_at h (map_at gs i)) key (all_left IsMapKey h (map_at gs i) (map_all IsMapKey i gs keys)) differs.1 in
      (key, subst (λ b. LiesIn b key) (same_number i) lies, is, λ same. differs.2 (sym (find_joined 0 i key (joined_maps h fs gs) new lies) ∙ same ∙ find_joined 0 i key fs are lies))),
  λ none test passes.
      sym (chosen_joined i 0 i test (joined_maps h fs gs) (sym (same_number i)) passes new)
      ∙ ap (filter (λ (e : ℕ × PageHist). test e.0)) (tells.1 none)
      ∙ chosen_joined i 0 i test fs (sym (same_number i)) passes are,
)

pub tells_all : (h : ℕ) (ms ns rs : List BucketMap) (old more : MapPairs) (set : ℕ)
    → fulls 0 ns ≡ joined_maps h (fulls 0 ms) (fulls 0 rs) → AreMapsOf 0 ms → AreMapsOf 0 ns
    → AreMapsOf 0 rs → NoFar rs → length rs ≡ length ms → length ms ≡ 64
    → all_pairs (fulls 0 ms) ≡ old → all_pairs (fulls 0 rs) ≡ more → AllKeys IsMapKey more
    → HasChanged h 0 (near_pairs ms) (near_pairs rs) set
    → TellsBuckets set old (all_pairs (fulls 0 ns))
tells_all h ms ns rs old more set joined are new also none long all view other keys changed bucket low =
    let fs = fulls 0 ms in
    let gs = fulls 0 rs in
    let there : bucket < length fs = omega (arith, length_fulls 0 ms, all, low) in
    let as_long : length gs ≡ length fs = length_fulls 0 rs ∙ long ∙ sym (length_fulls 0 ms) in
    let told : TellsAt h bucket fs gs (bit_at set bucket) = subst (λ k. TellsAt h bucket fs gs (bit_at set k)) (same_number bucket) (tells_at h 0 bucket fs gs set (changed_fulls h 0 ms rs set are also none changed) there as_long) in
    let tells = tells_bucket h bucket (bit_at set bucket) fs gs (buckets_of 0 ms are) (buckets_of 0 rs also) (subst (AreBuckets 0) joined (buckets_of 0 ns new)) (subst (AllKeys IsMapKey) (sym other) keys) told in
    let P : MapPairs → MapPairs → Type 0 = λ s t. (bit_at set bucket ≡ 1 → DiffersIn bucket s t) × (bit_at set bucket ≡ 0 → SamePairsIn bucket s t) in
    subst (λ s. P s (all_pairs (fulls 0 ns))) view (subst (P (all_pairs fs)) (sym (ap all_pairs joined)) tells)

-- ---- what holds of a result

pub on_ok : {A E : Type 0} (r : Result A E) (P Q : Type 0) → (P → Q) → OnOk r P → OnOk r Q
on_ok (Ok a) P Q so holds = so holds
on_ok (Err e) P Q so holds = tt

pub on_err : {A E : Type 0} (r : Result A E) (P Q : Type 0) → (P → Q) → OnErr r P → OnErr r Q
on_err (Ok a) P Q so holds = tt
on_err (Err e) P Q so holds = so holds

pub if_ok : {A E : Type 0} (r : Result A E) (P : Type 0) (Q R : A → Type 0)
    → ((a : A) → P → Q a → R a) → OnOk r P → IfOk r Q → IfOk r R
if_ok (Ok a) P Q R so holds is = so a holds is
if_ok (Err e) P Q R so holds is = tt

-- the maps are those of their buckets, whether they were merged or not
pub maps_joined : {A E : Type 0} (r : Result A E) (h : ℕ) (ms ns rs : List BucketMap)
    → OnOk r (near_pairs ns ≡ joined_maps h (near_pairs ms) (near_pairs rs))
    → OnErr r (near_pairs ns ≡ near_pairs ms) → far_pairs ns ≡ far_pairs ms → AreMapsOf 0 ms
    → AreMapsOf 0 rs → NoFar rs → length rs ≡ length ms → EachFew (near_pairs ns)
    → (length ns ≡ length ms) × AreMapsOf 0 ns
maps_joined (Ok a) h ms ns rs ok err far are also none long few = let all = joined_fulls h 0 ms ns rs ok far are also none long few in (all.2, all.1)
maps_joined (Err e) h ms ns rs ok err far are also none long few = let all = kept_fulls 0 ms ns err far are in (all.2, all.1)

-- What is left of pairs at a horizon.
use Rattle.std.proofs.Common.{◌≡◌, ℕ, Bool, true, false, cond, List, [], ◌∷◌, ◌++◌, length, zero, suc, get_or, slice_set, map, take, drop, sym, ap, refl, ◌∙◌, subst, Option, Some, None, arith, ◌+◌, ◌≤◌, ◌<◌}
use Rattle.std.specs.List.{AllByRecursion, cons_option}
use Rattle.std.specs.Option.{option_map}
use Rattle.std.specs.Ordering.{nat_cmp}
use Rattle.std.specs.Map.Calls.{RetainsPairs}
use Rattle.std.specs.declared.cmp.Ordering.TheVariants.{Less}
use Rattle.std.proofs.lemmas.List.Elements.{filter_map-append}
use Rattle.warm_maps.specs.declared.hist.PageHist.{PageHist}
use Rattle.warm_maps.specs.declared.hist.PageHist.TheVariants.{Once, Twice}
use Rattle.warm_maps.specs.PageHists.{is_kept, is_recent, shortened, kept_hist, IsDescending}
use Rattle.warm_maps.specs.MapKeys.{IsMapKey}
use Rattle.warm_maps.specs.MapPairs.{MapPairs, AreKept}
use Rattle.warm_maps.specs.Cuts.{cut_pair, cut_at}
use Rattle.warm_maps.specs.BucketMaps.{all_pairs, KeysAscend}
use Rattle.warm_maps.specs.NearPairs.{far_pairs, fulls, near_pairs, AreMapsOf, IsFar, IsMapOf}
use Rattle.warm_maps.specs.declared.bucket_map.BucketMap.{BucketMap}
use Rattle.warm_maps.proofs.NearParts.{cut_full}
use Rattle.std.proofs.lemmas.List.Edits.{map_over_more}

-- ---- what `retain` leaves

module _ {K F : Type 0} (T : F → K → PageHist → Bool → PageHist → F → Type 0) (m : ℕ) (f : F)
    (says : (k : K) (v : PageHist) (b : Bool) (w : PageHist) (g : F) → T f k v b w g
    → (cond b (Some w) None ≡ kept_hist m v) × (g ≡ f)) where
  one : (b : Bool) (k : K) (w : PageHist) (rest : List (K × PageHist))
      → cond b ((k, w) ∷ rest) rest
      ≡ cons_option (option_map (λ h. (k, h)) (cond b (Some w) None)) rest
  one true k w rest = refl
  one false k w rest = refl

  pub cut_from_retain : (es left : List (K × PageHist)) → RetainsPairs T f es left
      → left ≡ cut_at m es
  cut_from_retain [] left is = is
  cut_from_retain (e ∷ es) left is =
      let call = says e.0 e.1 is.0 is.1 is.2 is.4 in
      is.6
      ∙ one is.0 e.0 is.1 is.3
      ∙ ap (λ x. cons_option (option_map (λ h. (e.0, h)) x) is.3) call.0
      ∙ ap (cons_option (cut_pair m e)) (cut_from_retain es is.3 (subst (λ g. RetainsPairs T g es is.3) call.1 is.5))

-- ---- what is true of the pairs that are left

pub all_left : (P : ℕ → Type 0) (m : ℕ) (pairs : MapPairs) → AllByRecursion (λ e. P e.0) pairs
    → AllByRecursion (λ (e : ℕ × PageHist). P e.0) (cut_at m pairs)
all_left P m [] all = tt
all_left P m (e ∷ pairs) all = elim (kept_hist m e.1) as (λ x. AllByRecursion (λ (e : ℕ × PageHist). P e.0) (cons_option (option_map (λ h. (e.0, h)) x) (cut_at m pairs))) [
  | None ↦ all_left P m pairs all.1
  | Some h ↦ (all.0, all_left P m pairs all.1)
]

pub rise_left : (m : ℕ) (pairs : MapPairs) → KeysAscend pairs → KeysAscend (cut_at m pairs)
rise_left m [] rise = tt
rise_left m (e ∷ pairs) rise = elim (kept_hist m e.1) as (λ x. KeysAscend (cons_option (option_map (λ h. (e.0, h)) x) (cut_at m pairs))) [
  | None ↦ rise_left m pairs rise.1
  | Some h ↦ (all_left (λ p. nat_cmp e.0 p ≡ Less) m pairs rise.0, rise_left m pairs rise.1)
]

falls_still : (m : ℕ) (h : PageHist) → IsDescending h → IsDescending (shortened m h)
falls_still m (Once last) fall = tt
falls_still m (Twice two) fall = elim (is_kept m two.prev) as (λ b. IsDescending (cond b (Twice two) (Once two.last))) [ true ↦ fall | false ↦ tt ]

fall_left : (m : ℕ) (pairs : MapPairs)
    → AllByRecursion (λ (e : ℕ × PageHist). IsDescending e.1) pairs
    → AllByRecursion (λ (e : ℕ × PageHist). IsDescending e.1) (cut_at m pairs)
fall_left m [] all = tt
fall_left m (e ∷ pairs) all = elim (is_recent m e.1) as (λ b. AllByRecursion (λ (e : ℕ × PageHist). IsDescending e.1) (cons_option (option_map (λ h. (e.0, h)) (cond b (Some (shortened m e.1)) None)) (cut_at m pairs))) [
  | true ↦ (falls_still m e.1 all.0, fall_left m pairs all.1)
  | false ↦ fall_left m pairs all.1
]

pub kept_left : (m : ℕ) (pairs : MapPairs) → AreKept pairs → AreKept (cut_at m pairs)
kept_left m pairs are = record {
  keys_ascend = rise_left m pairs are.keys_ascend;
  are_keys = all_left IsMapKey m pairs are.are_keys;
  stamps_descend = fall_left m pairs are.stamps_descend;
}

pub few_left : (m : ℕ) (pairs : MapPairs) → length (cut_at m pairs) ≤ length pairs
few_left m [] = omega arith
few_left m (e ∷ pairs) = cases (kept_hist m e.1) (few_left m pairs)
  where
    cases : (x : Option PageHist) → length (cut_at m pairs) ≤ length pairs
        → length (cons_option (option_map (λ h. (e.0, h)) x) (cut_at m pairs)) ≤ suc (length pairs)
    cases None few = omega arith
    cases (Some h) few = omega arith

-- ---- the maps

-- one bucket more is cut; a part is one of the two maps
module _ (part : BucketMap → MapPairs) where
  parts_set : (ms : List BucketMap) (i : ℕ) (n : BucketMap)
      → map part (slice_set ms i n) ≡ slice_set (map part ms) i (part n)
  parts_set [] i n = refl
  parts_set (x ∷ ms) zero n = refl
  parts_set (x ∷ ms) (suc i) n = ap (λ t. part x ∷ t) (parts_set ms i n)

  part_there : (ms : List BucketMap) (i : ℕ) (m : BucketMap)
      → part (get_or ms i m) ≡ get_or (map part ms) i (part m)
  part_there [] i m = refl
  part_there (x ∷ ms) zero m = refl
  part_there (x ∷ ms) (suc i) m = part_there ms i m

  length_parts : (ms : List BucketMap) → length (map part ms) ≡ length ms
  length_parts [] = refl
  length_parts (x ∷ ms) = ap suc (length_parts ms)

  pub cut_more : (m : ℕ) (all ms : List BucketMap) (i : ℕ) (x n : BucketMap) → i < length all
      → map part ms ≡ map (cut_at m) (take i (map part all)) ++ drop i (map part all)
      → x ≡ get_or ms i x → part n ≡ cut_at m (part x)
      → map part (slice_set ms i n)
      ≡ map (cut_at m) (take (i + 1) (map part all)) ++ drop (i + 1) (map part all)
  cut_more m all ms i x n lt so_far is cut =
      parts_set ms i n
      ∙ ap (slice_set (map part ms) i) cut
      ∙ map_over_more (cut_at m) (map part all) (map part ms) i (part x) (omega (arith, length_parts all)) so_far (ap part is ∙ part_there ms i x)

pub joined_left : (m : ℕ) (ms : List MapPairs)
    → all_pairs (map (cut_at m) ms) ≡ cut_at m (all_pairs ms)
joined_left m [] = refl
joined_left m (x ∷ ms) = ap (λ t. cut_at m x ++ t) (joined_left m ms) ∙ sym (filter_map-append (cut_pair m) x (all_pairs ms))

-- all buckets are cut if each of their two maps is
module _ (h : ℕ) where
  pub cut_maps : (b : ℕ) (ms ns : List BucketMap) → near_pairs ns ≡ map (cut_at h) (near_pairs ms)
      → far_pairs ns ≡ map (cut_at h) (far_pairs ms) → AreMapsOf b ms
      → (fulls b ns ≡ map (cut_at h) (fulls b ms)) × AreMapsOf b ns × (length ns ≡ length ms)
  cut_maps b [] [] near far are = (refl, tt, refl)
  cut_maps b [] (n ∷ ns) near far are = absurd (cc)
  cut_maps b (m ∷ ms) [] near far are = absurd (cc)
  cut_maps b (m ∷ ms) (n ∷ ns) near far are =
      let first_near : n.near.entries ≡ cut_at h m.near.entries = cc in
      let first_far : n.far.entries ≡ cut_at h m.far.entries = cc in
      let later_near : near_pairs ns ≡ map (cut_at h) (near_pairs ms) = cc in
      let later_far : far_pairs ns ≡ map (cut_at h) (far_pairs ms) = cc in
      let rest = cut_maps (b + 1) ms ns later_near later_far are.1 in
      let few_near : length n.near.entries ≤ length m.near.entries = subst (λ (t : MapPairs). length t ≤ length m.near.entries) (sym first_near) (few_left h m.near.entries) in
      let few_far : length n.far.entries ≤ length m.far.entries = subst (λ (t : MapPairs). length t ≤ length m.far.entries) (sym first_far) (few_left h m.far.entries) in
      let is : IsMapOf b n = record {
        near = subst (AllByRecursion (λ (e : ℕ × PageHist). e.0 < 18446744073709551616)) (sym first_near) (all_left (λ k. k < 18446744073709551616) h m.near.entries are.0.near);
        far = subst (AllByRecursion (λ (e : ℕ × PageHist). IsFar b e.0)) (sym first_far) (all_left (IsFar b) h m.far.entries are.0.far);
        near_few = omega (arith, few_near, are.0.near_few);
        far_few = omega (arith, few_far, are.0.far_few);
      } in
      let whole = cut_full b h m n first_near first_far in
      ((λ i. whole i ∷ rest.0 i), (is, rest.1), ap suc rest.2)

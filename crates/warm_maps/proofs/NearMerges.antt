-- A run merged with the near pairs of a bucket is merged with all pairs of the bucket.
use Rattle.std.proofs.Common.{◌≡◌, ℕ, ◌<◌, Bool, [], ◌∷◌, ◌++◌, sym, ap, refl, ◌∙◌, subst, Option, IsSome, IfOk, OnOk, OnErr}
use Rattle.std.specs.BTreeMap.{insert_entry}
use Rattle.std.specs.Ordering.{nat_cmp}
use Rattle.std.specs.declared.result.Result.{Result}
use Rattle.std.specs.declared.result.Result.TheVariants.{Ok, Err}
use Rattle.warm_maps.specs.declared.hist.PageHist.{PageHist}
use Rattle.warm_maps.specs.MapKeys.{full_key}
use Rattle.warm_maps.specs.MapPairs.{MapPairs}
use Rattle.warm_maps.specs.BucketMaps.{found}
use Rattle.warm_maps.specs.NearPairs.{widened, IsFar}
use Rattle.warm_maps.specs.Runs.{at_key, with_pairs}
use Rattle.warm_maps.specs.Walks.{joined_with, joined_pairs, merged, DiffersAt, TellsChange}
use Rattle.warm_maps.proofs.MergedBuckets.{all_at, joined_all}
use Rattle.warm_maps.proofs.NearKeys.{full_keeps, near_before_far}
use Rattle.warm_maps.proofs.NearParts.{AllKeys, all_insert, find_near, insert_near}
use Rattle.warm_maps.proofs.NearRuns.{with_append, with_at}
use Rattle.warm_maps.proofs.WithKeys.{found_with}

abbrev pub AreSmall : MapPairs → Type 0
AreSmall run = AllKeys (λ k. k < 18446744073709551616) run

pub all_put : (P : ℕ → Type 0) (m run : MapPairs) → AllKeys P m → AllKeys P run
    → AllKeys P (with_pairs m run)
all_put P m [] own all = own
all_put P m (e ∷ run) own all = all_insert P e.0 e.1 (with_pairs m run) all.0 (all_put P m run own all.1)

-- what is true of the keys is true of them after a merge, whether an allocation fails or not
pub all_merged : {A E : Type 0} (r : Result A E) (P : ℕ → Type 0) (m run n : MapPairs) → AllKeys P m
    → AllKeys P run → OnOk r (n ≡ merged m run) → OnErr r (n ≡ m) → AllKeys P n
all_merged (Ok a) P m run n own all ok err = subst (AllKeys P) (sym ok) (all_put P m (joined_pairs m run) own (joined_all P m run all))
all_merged (Err e) P m run n own all ok err = subst (AllKeys P) (sym err) own

module _ (b : ℕ) (far : MapPairs) (is : AllKeys (IsFar b) far) where
  with_near : (near run : MapPairs) → AreSmall run
      → with_pairs (widened b near ++ far) (widened b run) ≡ widened b (with_pairs near run) ++ far
  with_near near [] small = refl
  with_near near (e ∷ run) small =
      ap (λ t. insert_entry nat_cmp t (full_key b e.0) e.1) (with_near near run small.1)
      ∙ insert_near b e.0 (with_pairs near run) far (near_before_far b e.0 small.0) is e.1

  joined_near : (near run : MapPairs) → AreSmall run
      → joined_pairs (widened b near ++ far) (widened b run) ≡ widened b (joined_pairs near run)
  joined_near near [] small = refl
  joined_near near (e ∷ run) small =
      let h : Option PageHist = joined_with e.1 (found e.0 near) in
      ap (λ x. at_key (full_key b e.0) (joined_with e.1 x) ++ joined_pairs (widened b near ++ far) (widened b run)) (find_near b e.0 near far (near_before_far b e.0 small.0) is)
      ∙ ap (λ t. at_key (full_key b e.0) h ++ t) (joined_near near run small.1)
      ∙ ap (λ t. t ++ widened b (joined_pairs near run)) (sym (with_at (full_key b) e.0 h))
      ∙ sym (with_append (full_key b) (at_key e.0 h) (joined_pairs near run))

  pub merged_near : (near run : MapPairs) → AreSmall run
      → merged (widened b near ++ far) (widened b run) ≡ widened b (merged near run) ++ far
  merged_near near run small =
      ap (with_pairs (widened b near ++ far)) (joined_near near run small)
      ∙ with_near near (joined_pairs near run) (joined_all (λ k. k < 18446744073709551616) near run small)

  pub differs_near : (near run n : MapPairs) → AreSmall run → DiffersAt run near n
      → DiffersAt (widened b run) (widened b near ++ far) (widened b n ++ far)
  differs_near near run n small differs =
      let key : ℕ = differs.0 in
      let fits : key < 18446744073709551616 = all_at (λ k. k < 18446744073709551616) run key small differs.1 in
      let before : found (full_key b key) (widened b near ++ far) ≡ found key near = find_near b key near far (near_before_far b key fits) is in
      let after : found (full_key b key) (widened b n ++ far) ≡ found key n = find_near b key n far (near_before_far b key fits) is in
      (full_key b key, subst IsSome (sym (found_with (full_key b) (full_keeps b) key run)) differs.1, λ same. differs.2 (sym after ∙ same ∙ before))

  pub merged_full : {A E : Type 0} (r : Result A E) (near run n : MapPairs) → AreSmall run
      → OnOk r (n ≡ merged near run)
      → OnOk r (widened b n ++ far ≡ merged (widened b near ++ far) (widened b run))
  merged_full (Ok a) near run n small ok = ap (λ t. widened b t ++ far) ok ∙ sym (merged_near near run small)
  merged_full (Err e) near run n small ok = tt

  pub tells_full : {E : Type 0} (r : Result Bool E) (near run n : MapPairs) → AreSmall run
      → IfOk r (λ changed. TellsChange changed run near n)
      → IfOk r (λ changed. TellsChange changed (widened b run) (widened b near ++ far)
      (widened b n ++ far))
  tells_full (Ok c) near run n small tells = ((λ yes. differs_near near run n small (tells.0 yes)), λ no. ap (λ t. widened b t ++ far) (tells.1 no))
  tells_full (Err e) near run n small tells = tt

  pub kept_full : {A E : Type 0} (r : Result A E) (near n : MapPairs) → OnErr r (n ≡ near)
      → OnErr r (widened b n ++ far ≡ widened b near ++ far)
  kept_full (Ok a) near n err = tt
  kept_full (Err e) near n err = ap (λ t. widened b t ++ far) err

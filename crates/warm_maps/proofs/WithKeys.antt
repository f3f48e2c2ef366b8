-- Pairs whose keys are changed in such a way that they keep their order.
use Rattle.std.proofs.Common.{◌≡◌, ℕ, cond, [], ◌∷◌, sym, ap, refl, ◌∙◌, Option, Some, None, length, suc}
use Rattle.std.specs.List.{AllByRecursion, cons_option}
use Rattle.std.specs.Option.{option_map}
use Rattle.std.specs.Map.{remove_entry, set_value}
use Rattle.std.specs.BTreeMap.{is_at, insert_entry}
use Rattle.std.specs.Ordering.{is_eq, nat_cmp}
use Rattle.std.specs.declared.cmp.Ordering.TheVariants.{Less, Equal, Greater}
use Rattle.warm_stamps.proofs.DistinctLemmas.{by_cases}
use Rattle.warm_maps.specs.declared.hist.PageHist.{PageHist}
use Rattle.warm_maps.specs.Cuts.{cut_at}
use Rattle.warm_maps.specs.PageHists.{kept_hist}
use Rattle.warm_maps.specs.MapPairs.{MapPairs}
use Rattle.warm_maps.specs.BucketMaps.{KeysAscend, found}
use Rattle.warm_maps.specs.NearPairs.{with_keys}

pub length_with : (f : ℕ → ℕ) (pairs : MapPairs) → length (with_keys f pairs) ≡ length pairs
length_with f [] = refl
length_with f (e ∷ pairs) = ap suc (length_with f pairs)

pub all_with : (f : ℕ → ℕ) (P Q : ℕ → Type 0) → ((k : ℕ) → P k → Q (f k)) → (pairs : MapPairs)
    → AllByRecursion (λ (e : ℕ × PageHist). P e.0) pairs
    → AllByRecursion (λ (e : ℕ × PageHist). Q e.0) (with_keys f pairs)
all_with f P Q so [] all = tt
all_with f P Q so (e ∷ pairs) all = (so e.0 all.0, all_with f P Q so pairs all.1)

pub cut_with : (f : ℕ → ℕ) (m : ℕ) (pairs : MapPairs)
    → cut_at m (with_keys f pairs) ≡ with_keys f (cut_at m pairs)
cut_with f m [] = refl
cut_with f m (e ∷ pairs) = cases (kept_hist m e.1) (cut_with f m pairs)
  where
    cases : (x : Option PageHist) → cut_at m (with_keys f pairs) ≡ with_keys f (cut_at m pairs)
        → cons_option (option_map (λ h. (f e.0, h)) x) (cut_at m (with_keys f pairs))
        ≡ with_keys f (cons_option (option_map (λ h. (e.0, h)) x) (cut_at m pairs))
    cases None later = later
    cases (Some h) later = ap (λ t. (f e.0, h) ∷ t) later

module _ (f : ℕ → ℕ) (keeps : (x y : ℕ) → nat_cmp (f x) (f y) ≡ nat_cmp x y) where
  pub found_with : (p : ℕ) (pairs : MapPairs) → found (f p) (with_keys f pairs) ≡ found p pairs
  found_with p [] = refl
  found_with p (e ∷ pairs) =
      ap (λ o. cond (is_eq o) (Some e.1) (found (f p) (with_keys f pairs))) (keeps p e.0)
      ∙ ap (cond (is_eq (nat_cmp p e.0)) (Some e.1)) (found_with p pairs)

  pub insert_with : (p : ℕ) (h : PageHist) (pairs : MapPairs)
      → insert_entry nat_cmp (with_keys f pairs) (f p) h
      ≡ with_keys f (insert_entry nat_cmp pairs p h)
  insert_with p h [] = refl
  insert_with p h (e ∷ pairs) = by_cases (nat_cmp p e.0) _
      (λ pe. let is : nat_cmp (f p) (f e.0) ≡ Less = keeps p e.0 ∙ pe in rw (is, pe) refl)
      (λ pe. let is : nat_cmp (f p) (f e.0) ≡ Equal = keeps p e.0 ∙ pe in rw (is, pe) refl)
      (λ pe. let is : nat_cmp (f p) (f e.0) ≡ Greater = keeps p e.0 ∙ pe in rw (is, pe) (ap (λ t. (f e.0, e.1) ∷ t) (insert_with p h pairs)))

  pub set_with : (p : ℕ) (h : PageHist) (pairs : MapPairs)
      → set_value (is_at (nat_cmp (f p))) (with_keys f pairs) h
      ≡ with_keys f (set_value (is_at (nat_cmp p)) pairs h)
  set_with p h [] = refl
  set_with p h (e ∷ pairs) = by_cases (nat_cmp p e.0) _
      (λ pe. let is : nat_cmp (f p) (f e.0) ≡ Less = keeps p e.0 ∙ pe in rw (is, pe) (ap (λ t. (f e.0, e.1) ∷ t) (set_with p h pairs)))
      (λ pe. let is : nat_cmp (f p) (f e.0) ≡ Equal = keeps p e.0 ∙ pe in rw (is, pe) refl)
      (λ pe. let is : nat_cmp (f p) (f e.0) ≡ Greater = keeps p e.0 ∙ pe in rw (is, pe) (ap (λ t. (f e.0, e.1) ∷ t) (set_with p h pairs)))

  pub remove_with : (p : ℕ) (pairs : MapPairs)
      → remove_entry (is_at (nat_cmp (f p))) (with_keys f pairs)
      ≡ with_keys f (remove_entry (is_at (nat_cmp p)) pairs)
  remove_with p [] = refl
  remove_with p (e ∷ pairs) = by_cases (nat_cmp p e.0) _
      (λ pe. let is : nat_cmp (f p) (f e.0) ≡ Less = keeps p e.0 ∙ pe in rw (is, pe) (ap (λ t. (f e.0, e.1) ∷ t) (remove_with p pairs)))
      (λ pe. let is : nat_cmp (f p) (f e.0) ≡ Equal = keeps p e.0 ∙ pe in rw (is, pe) refl)
      (λ pe. let is : nat_cmp (f p) (f e.0) ≡ Greater = keeps p e.0 ∙ pe in rw (is, pe) (ap (λ t. (f e.0, e.1) ∷ t) (remove_with p pairs)))

  above_with : (p : ℕ) (pairs : MapPairs)
      → AllByRecursion (λ (e : ℕ × PageHist). nat_cmp p e.0 ≡ Less) pairs
      → AllByRecursion (λ (e : ℕ × PageHist). nat_cmp (f p) e.0 ≡ Less) (with_keys f pairs)
  above_with p [] all = tt
  above_with p (e ∷ pairs) all = (keeps p e.0 ∙ all.0, above_with p pairs all.1)

  pub rise_with : (pairs : MapPairs) → KeysAscend pairs → KeysAscend (with_keys f pairs)
  rise_with [] rise = tt
  rise_with (e ∷ pairs) rise = (above_with e.0 pairs rise.0, rise_with pairs rise.1)

  above_back : (p : ℕ) (pairs : MapPairs)
      → AllByRecursion (λ (e : ℕ × PageHist). nat_cmp (f p) e.0 ≡ Less) (with_keys f pairs)
      → AllByRecursion (λ (e : ℕ × PageHist). nat_cmp p e.0 ≡ Less) pairs
  above_back p [] all = tt
  above_back p (e ∷ pairs) all = (sym (keeps p e.0) ∙ all.0, above_back p pairs all.1)

  pub rises_back : (pairs : MapPairs) → KeysAscend (with_keys f pairs) → KeysAscend pairs
  rises_back [] rise = tt
  rises_back (e ∷ pairs) rise = (above_back e.0 pairs rise.0, rises_back pairs rise.1)

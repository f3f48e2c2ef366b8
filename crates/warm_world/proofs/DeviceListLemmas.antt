-- Lists of devices, one added after the other.
use Rattle.std.proofs.Common.{◌≡◌, ◌<◌, ◌≤◌, List, [], ◌∷◌, ◌++◌, length, map, subst, sym, inl, inr, arith}
use Rattle.std.proofs.Math.ListN.{get_or-append}
use Rattle.std.proofs.Math.Seq.{get_or-append_seam}
use Rattle.std.proofs.lemmas.Bool.{cases_eq}
use Rattle.std.proofs.lemmas.List.{length-append, length-map, map-append}
use Rattle.warm_devices.specs.Device.{DeviceState}
use Rattle.warm_pool.specs.declared.TheConstants.{MAX_DEVICES}
use Rattle.warm_world.specs.Opening.{AreFew}

few_more : (lists : List (List DeviceState)) (list : List DeviceState) → AreFew lists
    → length list ≤ MAX_DEVICES → AreFew (lists ++ list ∷ [])
few_more lists list few short k low = elim (cases_eq k (length lists)) [
  | inl last ↦ rw last (rw get_or-append_seam short)
  | inr other ↦
      let inside : k < length lists = omega (arith, low, length-append lists (list ∷ [])) in
      rw (get_or-append lists (list ∷ []) [] k inside) (few k inside)
]

-- a list of one device is added to lists of few devices each
pub one_more : {A B : Type 0} (g : A → List B) (h : B → DeviceState) (xs ys : List A) (x : A)
    → ys ≡ xs ++ x ∷ [] → AreFew (map (λ a. map h (g a)) xs) → length (g x) ≡ 1
    → AreFew (map (λ a. map h (g a)) ys)
one_more g h xs ys x is few one =
    let short : length (map h (g x)) ≤ MAX_DEVICES = omega (arith, one, length-map (g x) h) in
    subst (λ zs. AreFew (map (λ a. map h (g a)) zs)) (sym is)
    (subst AreFew (sym (map-append (λ a. map h (g a)) xs (x ∷ []))) (few_more (map (λ a. map h (g a)) xs) (map h (g x)) few short))

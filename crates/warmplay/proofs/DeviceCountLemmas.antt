-- No list is longer than a pool takes devices.
use Rattle.std.proofs.Common.{◌≡◌, inl, inr, ℕ, zero, suc, ◌<◌, ◌≤◌, get_or, List, [], ◌∷◌, ◌++◌, length, map, arith}
use Rattle.std.proofs.Math.ListN.{get_or-append}
use Rattle.std.proofs.Math.Seq.{get_or-append_seam}
use Rattle.std.proofs.lemmas.Bool.{cases_eq}
use Rattle.std.proofs.lemmas.List.{length-append, map-append}
use Rattle.warm_devices.specs.Device.{DeviceState}
use Rattle.warm_pool.specs.declared.TheConstants.{MAX_DEVICES}
use Rattle.warm_world.specs.Opening.{AreFew}

abbrev pub EachFew : {B : Type 0} → List (List B) → Type 0
EachFew lists = (k : ℕ) → k < length lists → length (get_or lists k []) ≤ MAX_DEVICES

pub none_yet : {B : Type 0} (lists : List (List B)) → length lists ≡ 0 → EachFew lists
none_yet lists none = λ k lt. absurd (omega (arith, none, lt))

few_more : {B : Type 0} (lists : List (List B)) (list : List B) → EachFew lists
    → length list ≤ MAX_DEVICES → EachFew (lists ++ list ∷ [])
few_more lists list few here = λ k lt. elim (cases_eq k (length lists)) [
  | inl e ↦ rw e (rw get_or-append_seam here)
  | inr ne ↦
      let low : k < length lists = omega (arith, length-append lists (list ∷ [])) in
      rw (get_or-append lists (list ∷ []) [] k low) (few k low)
]

-- one list more
pub few_pushed : {A B : Type 0} (read : A → List B) (lists : List A) (list : A)
    → EachFew (map read lists) → length (read list) ≤ MAX_DEVICES
    → EachFew (map read (lists ++ list ∷ []))
few_pushed read lists list few here = rw map-append (few_more (map read lists) (read list) few here)

-- each list read as one of the same length
pub few_listed : {A B : Type 0} (read : A → List B) (states : A → List DeviceState) (lists : List A)
    → EachFew (map read lists) → ((x : A) → length (states x) ≡ length (read x))
    → AreFew (map states lists)
few_listed read states [] few same k lt = absurd (omega arith)
few_listed read states (x ∷ xs) few same zero lt = rw same (few 0 (omega arith))
few_listed read states (x ∷ xs) few same (suc k) lt = few_listed read states xs (λ j h. few (suc j) (omega (arith, h))) same k (omega (arith, lt))

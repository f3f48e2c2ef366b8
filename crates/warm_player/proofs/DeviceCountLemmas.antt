-- No replica has more devices than a page can name.
use Rattle.std.proofs.Common.{inl, inr, ◌<◌, ◌≤◌, List, [], ◌∷◌, ◌++◌, length, map, arith}
use Rattle.std.proofs.Math.ListN.{get_or-append}
use Rattle.std.proofs.Math.Seq.{get_or-append_seam}
use Rattle.std.proofs.lemmas.Bool.{cases_eq}
use Rattle.std.proofs.lemmas.List.{length-append, map-append}
use Rattle.warm_devices.specs.Device.{DeviceState}
use Rattle.warm_pool.specs.declared.TheConstants.{MAX_DEVICES}
use Rattle.warm_world.specs.Opening.{AreFew}

few_more : (lists : List (List DeviceState)) (list : List DeviceState) → AreFew lists
    → length list ≤ MAX_DEVICES → AreFew (lists ++ list ∷ [])
few_more lists list few here = λ k lt. elim (cases_eq k (length lists)) [
  | inl e ↦ rw e (rw get_or-append_seam here)
  | inr ne ↦
      let low : k < length lists = omega (arith, length-append lists (list ∷ [])) in
      rw (get_or-append lists (list ∷ []) [] k low) (few k low)
]

-- one list more, of which `read` gives the devices
pub few_pushed : {A : Type 0} (read : A → List DeviceState) (lists : List A) (list : A)
    → AreFew (map read lists) → length (read list) ≤ MAX_DEVICES
    → AreFew (map read (lists ++ list ∷ []))
few_pushed read lists list few here = rw map-append (few_more (map read lists) (read list) few here)

-- Lists of pages, after a write to one of them.
use Rattle.std.proofs.Common.{ℕ, List, []}
use Rattle.std.proofs.Math.ListN.{set}
use Rattle.std.proofs.lemmas.List.{length-set, get_or-set_other}
use Rattle.warm_devices.specs.Device.{ChangesPage}

pub changes-set : (xs : List (List ℕ)) (i : ℕ) (y : List ℕ) → ChangesPage i xs (set xs i y)
changes-set xs i y = record {
  count = length-set xs i y;
  others = λ k ne. get_or-set_other xs i k y [] ne;
}

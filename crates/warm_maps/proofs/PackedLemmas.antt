-- Packed histories of pages.
use Rattle.std.proofs.Common.{◌≡◌, ◌≢◌, ◌==◌, Bool, true, false, cond, refl}
use Rattle.std.proofs.lemmas.Bool.{eqb-true}
use Rattle.warm_stamps.specs.declared.Stamp.{Stamp}
use Rattle.warm_maps.specs.declared.hist.PageHist.TheVariants.{Once, Twice}
use Rattle.warm_maps.specs.PackedHists.{unpacked}

-- if the second stamp has a replica, both stamps are there
pub two_unpacked : (last prev : Stamp) → prev.replica ≢ 0
    → unpacked last prev ≡ Twice (record { last = last; prev = prev })
two_unpacked last prev some = cases (prev.replica == 0) refl
  where
    cases : (b : Bool) → (prev.replica == 0) ≡ b
        → cond b (Once last) (Twice (record { last = last; prev = prev }))
        ≡ Twice (record { last = last; prev = prev })
    cases true is = absurd (some (eqb-true prev.replica 0 is))
    cases false is = refl

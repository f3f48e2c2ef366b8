-- Runs of any machine: one after another, with one call more, their last call, and what they keep.
use Rattle.std.proofs.Common.{List, [], ◌∷◌, ◌++◌, refl, sym, ap, subst}
use Rattle.warm_machine.specs.declared.operation.Operation.{Operation}
use Rattle.warm_machine.specs.Runs.{Runs}

module _ {X C R : Type 0} (goes : X → C → R → X → Type 0) where
  pub runs_on : (x y z : X) (es fs : List (Operation C R)) → Runs goes x es y → Runs goes y fs z
      → Runs goes x (es ++ fs) z
  runs_on x y z [] fs one rest = subst (λ w. Runs goes w fs z) (sym one) rest
  runs_on x y z (e ∷ es) fs (w, first, one) rest = (w, first, runs_on w y z es fs one rest)

  pub runs_more : (x y z : X) (es : List (Operation C R)) (e : Operation C R) → Runs goes x es y
      → goes y e.call e.reply z → Runs goes x (es ++ e ∷ []) z
  runs_more x y z es e runs next = runs_on x y z es (e ∷ []) runs (z, next, refl)

  pub last_of : (x z : X) (es : List (Operation C R)) (e : Operation C R)
      → Runs goes x (es ++ e ∷ []) z → (y : X) × Runs goes x es y × goes y e.call e.reply z
  last_of x z [] e (y, last, same) = (x, refl, subst (λ w. goes x e.call e.reply w) same last)
  last_of x z (f ∷ fs) e (w, first, runs) =
      let rest = last_of w z fs e runs in
      (rest.0, (w, first, rest.1), rest.2)

  -- what each call keeps, all keep
  pub all_keep : (P : X → Type 0) → ((x y : X) (c : C) (r : R) → P x → goes x c r y → P y)
      → (x z : X) (es : List (Operation C R)) → P x → Runs goes x es z → P z
  all_keep P step x z [] here runs = subst P runs here
  all_keep P step x z (e ∷ es) here (y, first, runs) =
      all_keep P step y z es (step x y e.call e.reply here first) runs

  -- what is seen of a run is a run, if what is seen of each call is a call
  pub runs_seen : {Y : Type 0} (does : Y → C → R → Y → Type 0) (see : X → Y)
      → ((x y : X) (c : C) (r : R) → goes x c r y → does (see x) c r (see y))
      → (x z : X) (es : List (Operation C R)) → Runs goes x es z → Runs does (see x) es (see z)
  runs_seen does see step x z [] runs = ap see runs
  runs_seen does see step x z (e ∷ es) (y, first, runs) =
      (see y, step x y e.call e.reply first, runs_seen does see step y z es runs)

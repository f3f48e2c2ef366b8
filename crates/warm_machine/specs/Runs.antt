-- Calls with their replies, and lists of them that a machine can answer.
use Rattle.std.specs.Prelude.{◌≡◌, ℕ, List, [], ◌∷◌}
use Rattle.warm_machine.specs.declared.operation.Operation.{Operation}

module _ {C R : Type 0} where
  -- a call with its reply, made by the caller of this number
  abbrev pub operation : ℕ → C → R → Operation C R
  operation n c r = record { by = n; call = c; reply = r }

module _ {X C R : Type 0} where
  -- the list is a run of the machine's relation from the first state to the last
  abbrev pub Runs : (X → C → R → X → Type 0) → X → List (Operation C R) → X → Type 0
  Runs goes x [] z = x ≡ z
  Runs goes x (e ∷ es) z = (y : X) × goes x e.call e.reply y × Runs goes y es z

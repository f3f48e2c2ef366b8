-- What a bool of C says.
use Rattle.std.specs.Prelude.{◌↔◌, ℕ}
use Rattle.warm_c_base.specs.Values.{IsBool}

-- a bool of C that says whether P holds also says whether Q does, if each follows from the other
pub bool_same : {P Q : Type 0} (n : ℕ) → IsBool n P → P ↔ Q → IsBool n Q
bool_same n is same = (is.0, (λ e. same.0 (is.1.0 e), λ q. is.1.1 (same.1 q)))

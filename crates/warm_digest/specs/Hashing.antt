-- The input of a hasher that is gathered in a text first.
use Rattle.std.specs.Prelude.{◌≡◌, ℕ, List, ◌++◌}
use Rattle.sha2.specs.Hashers.{Holds256}
use Rattle.sha2.specs.declared.Sha256.{Sha256}

-- these bytes are what the hasher has taken, and then the text
pub record Gathers (hasher : Sha256) (text bytes : List ℕ) : Type 0 where
  pub taken : List ℕ
  pub held : Holds256 hasher taken
  pub all : taken ++ text ≡ bytes

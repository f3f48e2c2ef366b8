-- The faults of a setup, by number and name, and what a reader of settings may answer.
use Rattle.std.specs.Prelude.{◌≡◌, ◌⊎◌, ℕ, List, Result, Ok, Err, codes}
use Rattle.toml.specs.Errors.{IsMemory}
use Rattle.toml.specs.declared.de.error.Error.{Error}
use Rattle.warm_setup.specs.declared.setup.SetupFault.{SetupFault}
use Rattle.warm_setup.specs.declared.setup.SetupFault.TheVariants.{Memory, NotToml, BadKey}
use Rattle.warm_setup.specs.declared.setup.SetupFault.TheVariants.{BadValue}

-- the number of each fault of a setup
abbrev pub code_of : SetupFault → ℕ
code_of Memory = 1
code_of NotToml = 2
code_of BadKey = 3
code_of BadValue = 4

-- the name of each fault of a setup
abbrev pub name_of : SetupFault → List ℕ
name_of Memory = codes "Memory"
name_of NotToml = codes "NotToml"
name_of BadKey = codes "BadKey"
name_of BadValue = codes "BadValue"

-- the setup's fault for one of TOML: `Memory` for an allocation failure, `NotToml` for any other
abbrev pub IsTomlFault : Error → SetupFault → Type 0
IsTomlFault error fault = ((fault ≡ Memory) × IsMemory error)
    ⊎ ((fault ≡ NotToml) × ¬ IsMemory error)

-- a reader returns the meaning, seen through `seen`; an allocation failure may be returned in place
-- of any result
abbrev pub GivesMeaning : {A B : Type 0} → (A → B) → Result B SetupFault → Result A SetupFault
    → Type 0
GivesMeaning seen meant (Ok value) = meant ≡ Ok (seen value)
GivesMeaning seen meant (Err fault) = (fault ≡ Memory) ⊎ (meant ≡ Err fault)

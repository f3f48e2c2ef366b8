-- The result of reading a line. Only the bytes of a put need an allocation.
use Rattle.std.specs.Prelude.{◌≡◌, ℕ, List, Option, Result, Err, MatchOption, ok_or, codes}
use Rattle.warm_world.specs.declared.event.Event.{Event}
use Rattle.warm_world.specs.declared.event.Event.TheVariants.{Put}
use Rattle.warm_player.specs.declared.parse.Line.{Line}
use Rattle.warm_player.specs.declared.parse.Line.TheVariants as meant
use Rattle.warm_player.specs.declared.parse.LineFault.{LineFault}
use Rattle.warm_player.specs.declared.parse.LineFault.TheVariants.{Memory, Bad}

-- The meaning is returned, and Bad if there is none. Memory may be returned in place of a value
-- that needs an allocation.
abbrev pub Reads : {A : Type 0} → (A → Type 0) → Option A → Result A LineFault → Type 0
Reads Takes said (Err Memory) = MatchOption said ⊥ Takes
Reads Takes said read = read ≡ ok_or said Bad

-- the event writes bytes into a page
abbrev pub IsPut : Event → Type 0
IsPut (Put i slot at bytes) = Unit {0}
IsPut event = ⊥

-- a line that puts bytes into a page
abbrev pub PutsBytes : Line → Type 0
PutsBytes meant.Nothing = ⊥
PutsBytes (meant.Act event) = IsPut event

-- bytes always need an allocation
abbrev pub TakesMemory : List ℕ → Type 0
TakesMemory bytes = Unit {0}

-- the number of each fault of a line
abbrev pub line_fault_code : LineFault → ℕ
line_fault_code Memory = 1
line_fault_code Bad = 2

-- the name of each fault of a line
abbrev pub line_fault_name : LineFault → List ℕ
line_fault_name Memory = codes "Memory"
line_fault_name Bad = codes "Bad"

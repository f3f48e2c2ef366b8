-- Which steps may fail as a draft is made, and which as it is put in place of the file.
use Rattle.std.specs.Prelude.{⊤}
use Rattle.atomic_file.specs.declared.fault.FileStep.{FileStep}
use Rattle.atomic_file.specs.declared.fault.FileStep.TheVariants.{Target, Folder, Create, Sync}
use Rattle.atomic_file.specs.declared.fault.FileStep.TheVariants.{Rename, SyncFolder}

-- a step of making a draft: the old file is not touched
abbrev pub IsOfMaking : FileStep → Type 0
IsOfMaking Target = ⊤
IsOfMaking Folder = ⊤
IsOfMaking Create = ⊤
IsOfMaking Sync = ⊥
IsOfMaking Rename = ⊥
IsOfMaking SyncFolder = ⊥

-- a step of putting a draft in place of the file
abbrev pub IsOfPlacing : FileStep → Type 0
IsOfPlacing Target = ⊥
IsOfPlacing Folder = ⊥
IsOfPlacing Create = ⊥
IsOfPlacing Sync = ⊤
IsOfPlacing Rename = ⊤
IsOfPlacing SyncFolder = ⊤

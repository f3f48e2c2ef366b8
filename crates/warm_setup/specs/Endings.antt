-- How a run of the program ends: its exit status, and its line on standard error.
use Rattle.std.specs.Prelude.{ℕ, List, [], ◌∷◌, ◌++◌, Option, Some, None, Result, Ok, Err, codes}
use Rattle.std.specs.Prelude.{decimal}
use Rattle.clap.specs.Words.{kind_of}
use Rattle.clap.specs.declared.error.kind.ErrorKind.{ErrorKind}
use Rattle.clap.specs.declared.error.kind.ErrorKind.TheVariants.{DisplayHelp, DisplayVersion}
use Rattle.warm_setup.specs.declared.command.CmdFault.{CmdFault}
use Rattle.warm_setup.specs.declared.command.CmdFault.TheVariants as command
use Rattle.warm_setup.specs.declared.outcome.ProgramFault.{ProgramFault}
use Rattle.warm_setup.specs.declared.outcome.ProgramFault.TheVariants.{Command, CannotOpen, Setup}
use Rattle.warm_setup.specs.declared.outcome.ProgramFault.TheVariants.{Play}
use Rattle.warm_world.specs.PlayFaults.{play_fault_name}
use Rattle.warm_world.specs.declared.play_fault.PlayFault.{PlayFault}
use Rattle.warm_world.specs.declared.play_fault.PlayFault.TheVariants.{BadLine}
use Rattle.warm_setup.specs.SetupFaults.{name_of}

-- displaying requested help is not a failure
abbrev pub status_of_kind : ErrorKind → ℕ
status_of_kind DisplayHelp = 0
status_of_kind DisplayVersion = 0
status_of_kind _ = 2

-- the exit status for a refused command line
abbrev pub status_of_command : CmdFault → ℕ
status_of_command command.Memory = 1
status_of_command (command.Refused error) = status_of_kind (kind_of error)

-- the exit status of a run with this result
abbrev pub exit_status : Result (Unit {0}) ProgramFault → ℕ
exit_status (Ok _) = 0
exit_status (Err (Command fault)) = status_of_command fault
exit_status (Err (CannotOpen name)) = 1
exit_status (Err (Setup fault)) = 2
exit_status (Err (Play fault)) = 1

-- the byte that ends a line
abbrev pub line_end : List ℕ
line_end = 10 ∷ []

-- what a refused command line writes to standard error, besides clap's own text
abbrev pub line_of_command : CmdFault → List ℕ
line_of_command command.Memory = codes "warmplay: " ++ codes "Memory" ++ line_end
line_of_command (command.Refused error) = []

-- a number after a space, or nothing
abbrev pub number_text : Option ℕ → List ℕ
number_text None = []
number_text (Some number) = codes " " ++ decimal number

-- the number that a play's fault names: that of a bad line
abbrev pub number_named : PlayFault → Option ℕ
number_named (BadLine number) = Some number
number_named _ = None

-- what a run with this result writes to standard error, besides clap's own text
abbrev pub error_line : Result (Unit {0}) ProgramFault → List ℕ
error_line (Ok _) = []
error_line (Err (Command fault)) = line_of_command fault
error_line (Err (CannotOpen name)) = codes "warmplay: cannot open " ++ name ++ line_end
error_line (Err (Setup fault)) = codes "warmplay: setup: " ++ name_of fault ++ line_end
error_line (Err (Play fault)) = codes "warmplay: " ++ play_fault_name fault
    ++ number_text (number_named fault) ++ line_end

-- ---- the faults of a command line, by number and name

-- the number of each reason why a command line was refused
abbrev pub command_fault_code : CmdFault → ℕ
command_fault_code command.Memory = 1
command_fault_code (command.Refused error) = 2

-- the name of each reason why a command line was refused
abbrev pub command_fault_name : CmdFault → List ℕ
command_fault_name command.Memory = codes "Memory"
command_fault_name (command.Refused error) = codes "Refused"

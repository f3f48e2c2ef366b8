-- The values of the readers of the command line, in terms of the definitions.
use Rattle.std.specs.Prelude.{◌≡◌, ◌≢◌, option_map}
use Rattle.clap.specs.Words.{kind_of}
use Rattle.clap.specs.declared.error.Error.{Error}
use Rattle.clap.specs.declared.error.kind.ErrorKind.TheVariants.{OutOfMemory}
use Rattle.warm_setup.specs.declared.command.BorrowedCmd.{BorrowedCmd}
use Rattle.warm_setup.specs.declared.command.BorrowedCmd.TheVariants as asked
use Rattle.warm_setup.specs.declared.command.Cmd.{Cmd}
use Rattle.warm_setup.specs.declared.command.Cmd.TheVariants.{Play, Random, Threads}
use Rattle.warm_setup.specs.declared.command.CmdFault.{CmdFault}
use Rattle.warm_setup.specs.declared.command.CmdFault.TheVariants.{Memory, Refused}

-- the command that the arguments stand for
abbrev pub command_for : BorrowedCmd → Cmd
command_for (asked.Play file setup) =
    Play (option_map (λ text. text.now) file) (option_map (λ text. text.now) setup)
command_for (asked.Random seed events setup) =
    Random seed events (option_map (λ text. text.now) setup)
command_for (asked.Threads file setup) = Threads file.now (option_map (λ text. text.now) setup)

-- the program's fault for one of clap: `Memory` for an allocation failure, else `Refused`, which
-- keeps clap's own
abbrev pub IsClapFault : Error → CmdFault → Type 0
IsClapFault error Memory = kind_of error ≡ OutOfMemory
IsClapFault error (Refused kept) = (kept ≡ error) × (kind_of error ≢ OutOfMemory)

-- The program's commands, and the meaning of its words.
use Rattle.std.specs.Prelude.{◌≡◌, ◌⊎◌, ℕ, ◌-◌, ◌^◌, List, [], true, Option, Some, None, Result, Ok}
use Rattle.std.specs.Prelude.{Err, codes, bytes_eq, option_map, option_and_then, if◌then◌else◌}
use Rattle.clap.specs.Words.{App, Row, Rule, Shape, Text, IsAmong, first_of, kind_of, one_of}
use Rattle.clap.specs.Words.{new_app, new_rule, subcommand_of, with_rule, with_subcommand}
use Rattle.std.specs.Str.Parse.{digits_value, without_leading_plus}
use Rattle.clap.specs.Simple.{on_top}
use Rattle.clap.specs.ValueTests.{is_unsigned_in}
use Rattle.clap.specs.declared.builder.value_parser.ValueParser.TheVariants.{Unsigned}
use Rattle.clap.specs.declared.error.kind.ErrorKind.TheVariants.{ValueValidation}
use Rattle.clap.specs.Faults.{fault_of}
use Rattle.clap.specs.declared.error.kind.ErrorKind.{ErrorKind}
use Rattle.warm_setup.specs.declared.command.TheConstants.{MAX_EVENTS}
use Rattle.warm_setup.specs.declared.command.Cmd.{Cmd}
use Rattle.warm_setup.specs.declared.command.Cmd.TheVariants.{Play, Random, Threads}
use Rattle.warm_setup.specs.declared.command.CmdFault.{CmdFault}
use Rattle.warm_setup.specs.declared.command.CmdFault.TheVariants.{Memory, Refused}

infixl 10 ◌>>=◌
-- the next reader gets the value, if there is one
abbrev pub ◌>>=◌ : {A B : Type 0} → Option A → (A → Option B) → Option B
o >>= f = option_and_then f o

-- ---- the commands

-- an argument whose help names its value
abbrev pub argument : Text → Rule
argument id = record (new_rule id) { value_names = 1 }

-- `[FILE]`
abbrev pub file : Rule
file = argument (codes "file")

-- `--setup FILE`
abbrev pub setup : Rule
setup = record (argument (codes "setup")) { long = Some (codes "setup") }

-- `play [FILE] [--setup FILE]`
abbrev pub play : App
play = with_rule (with_rule (new_app (codes "play")) file) setup

-- `--NAME N`, a number up to `most`, which is required
abbrev pub number : Text → ℕ → Rule
number name most =
    record (argument name) { long = Some name; parser = Some (Unsigned 0 most); required = true }

-- `random --seed S --events N [--setup FILE]`
abbrev pub random : App
random =
    let seed = number (codes "seed") (2 ^ 64 - 1) in
    let events = number (codes "events") MAX_EVENTS in
    with_rule (with_rule (with_rule (new_app (codes "random")) seed) events) setup

-- `threads FILE [--setup FILE]`
abbrev pub threads : App
threads = with_rule (with_rule (new_app (codes "threads")) (record file { required = true })) setup

-- a command line that requires a command
abbrev pub wants_command : Shape → Shape
wants_command top = record top { subcommand_required = true }

-- the root command with `play` alone
abbrev pub with_play : App
with_play = with_subcommand (on_top wants_command (new_app (codes "warmplay"))) play.top

-- the root command with `play` and `random`
abbrev pub with_random : App
with_random = with_subcommand with_play random.top

-- the root command of the program: with `play`, `random` and `threads`
abbrev pub warmplay : App
warmplay = with_subcommand with_random threads.top

-- ---- the meaning of words

-- the number that a text spells, if it spells one up to `most`
unfoldable pub number_in : ℕ → Text → Option ℕ
number_in most text =
    if is_unsigned_in 0 most text then Some (digits_value 10 (without_leading_plus text)) else None

-- the number that the argument of this name has, if it has one up to `most`
abbrev pub argument_number : ℕ → Text → List Row → Option ℕ
argument_number most id rows = option_and_then (number_in most) (one_of id rows)

-- `random`, by the values of its arguments
abbrev pub random_by : List Row → Option Cmd
random_by rows = do
  seed ← argument_number (2 ^ 64 - 1) (codes "seed") rows
  events ← argument_number (2 ^ 32 - 1) (codes "events") rows
  Some (Random seed events (first_of (codes "setup") rows))

-- `threads`, by the values of its arguments
abbrev pub threads_by : List Row → Option Cmd
threads_by rows = do
  file ← first_of (codes "file") rows
  Some (Threads file (first_of (codes "setup") rows))

-- a command, by its name and the values of its arguments
abbrev pub command_by : Text × List Row → Option Cmd
command_by found =
    if bytes_eq found.0 (codes "play")
    then Some (Play (first_of (codes "file") found.1) (first_of (codes "setup") found.1))
    else (if bytes_eq found.0 (codes "random") then random_by found.1
    else (if bytes_eq found.0 (codes "threads") then threads_by found.1
    else None))

-- the command and the values of clap's own definition of the matches
abbrev pub command_in : List Text → Option Cmd
command_in words = option_and_then command_by (subcommand_of warmplay words)

-- the words ask for this command
abbrev pub AsksFor : Text → List Text → Type 0
AsksFor name words =
    option_map (λ found. bytes_eq found.0 name) (subcommand_of warmplay words) ≡ Some true

-- clap's own definition finds no fault in the words, which request a random schedule or a play by
-- threads, but a number or the file is missing
abbrev pub LacksValue : List Text → Type 0
LacksValue words =
    (fault_of warmplay words ≡ [])
    × (AsksFor (codes "random") words ⊎ AsksFor (codes "threads") words)
    × (command_in words ≡ None)

-- A command is returned only if clap's own definition finds no fault in the words, a refusal only
-- for a fault that it finds, or for a missing number or file.
abbrev pub Answers : List Text → Result Cmd CmdFault → Type 0
Answers words (Ok command) = (fault_of warmplay words ≡ []) × (Some command ≡ command_in words)
Answers words (Err Memory) = Unit {0}
Answers words (Err (Refused error)) =
    IsAmong (kind_of error) (fault_of warmplay words)
    ⊎ (LacksValue words × (kind_of error ≡ ValueValidation))

-- a refusal of this kind, or an allocation failure
abbrev pub IsRefusal : ErrorKind → CmdFault → Type 0
IsRefusal kind Memory = Unit {0}
IsRefusal kind (Refused error) = kind_of error ≡ kind

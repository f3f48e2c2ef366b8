-- The requests of the lines of a schedule to workers.
use Rattle.std.specs.Prelude.{◌≡◌, ℕ, ◌+◌, List, [], ◌∷◌, Bool, ◌&&◌, nat_le, Option, Some, None}
use Rattle.std.specs.Prelude.{Result, Ok, Err, if◌then◌else◌}
use Rattle.warm_stamps.specs.declared.PageId.{PageId}
use Rattle.warm_stamps.specs.declared.Reference.{Reference}
use Rattle.warm_world.specs.Sizes.{Sizes}
use Rattle.warm_player.specs.Grammar.{meaning}
use Rattle.warm_player.specs.Workers.{worker_request_in}
use Rattle.warm_player.specs.declared.worker.NotForWorker.{NotForWorker}
use Rattle.warm_player.specs.declared.worker.WorkerRequest.{WorkerRequest}
use Rattle.warm_player.specs.declared.worker.WorkerRequest.TheVariants as request
use Rattle.warm_world.specs.declared.play_fault.PlayFault.{PlayFault}
use Rattle.warm_world.specs.declared.play_fault.PlayFault.TheVariants.{BadLine}
use Rattle.warm_threads.specs.declared.ask.Ask.{Ask}
use Rattle.warm_threads.specs.declared.ask.NotPlayable.{NotPlayable}
use Rattle.warm_threads.specs.declared.ask.Task.{Task}
use Rattle.warm_threads.specs.declared.ask.Task.TheVariants as task

-- whether n is one of the numbers from 1 to count
abbrev pub is_number : ℕ → ℕ → Bool
is_number n count = nat_le 1 n && nat_le n count

-- the setup has this worker of this replica
abbrev pub has_worker : Sizes → ℕ → ℕ → Bool
has_worker s i w = is_number i s.replicas && is_number w s.workers

-- a reference to a page at a time that the replica of a number makes
abbrev pub reference : ℕ → PageId → ℕ → Reference
reference i page time = record { page = page; stamp = record { time = time; replica = i } }

-- the request of a worker of a replica to do this
abbrev pub ask : ℕ → ℕ → Task → Ask
ask i w task = record { replica = i; worker = w; task = task }

-- threads cannot play the line
abbrev pub not_playable : NotPlayable
not_playable = record {}

-- the request, if there is such a worker
abbrev pub ask_if : Bool → Ask → Result Ask NotPlayable
ask_if there a = if there then Ok a else Err not_playable

-- the request of an event, if the worker exists
abbrev pub ask_in : Sizes → WorkerRequest → Result Ask NotPlayable
ask_in s (request.Reference i w page time) =
    ask_if (has_worker s i w) (ask i w (task.Reference (reference i page time)))
ask_in s (request.Flush i w) = ask_if (has_worker s i w) (ask i w task.Flush)

-- the request of a line that says something, or that threads can't play it
abbrev pub as_said : Result Ask NotPlayable → Result (Option Ask) NotPlayable
as_said (Ok a) = Ok (Some a)
as_said (Err e) = Err e

-- a request to a worker, or nothing; not playable if the line is bad or is not a request to a
-- worker, or the setup has no such worker
abbrev pub asked_in : Sizes → Result (Option WorkerRequest) NotForWorker
    → Result (Option Ask) NotPlayable
asked_in s (Err e) = Err not_playable
asked_in s (Ok None) = Ok None
asked_in s (Ok (Some said)) = as_said (ask_in s said)

-- the request of a line, or nothing
abbrev pub asked : Sizes → List ℕ → Result (Option Ask) NotPlayable
asked s line = asked_in s (worker_request_in (meaning line))

-- the number of this line, if threads cannot play it, else that of a later one
abbrev pub bad_or : Result (Option Ask) NotPlayable → ℕ → Option ℕ → Option ℕ
bad_or (Err e) number later = Some number
bad_or (Ok said) number later = later

-- the number of the first of these lines that threads can't play; the first of all has this number
abbrev pub bad_from : Sizes → ℕ → List (List ℕ) → Option ℕ
bad_from s number [] = None
bad_from s number (line ∷ rest) = bad_or (asked s line) number (bad_from s (number + 1) rest)

-- the number of the first line that threads cannot play, from 1
abbrev pub first_bad : Sizes → List (List ℕ) → Option ℕ
first_bad s lines = bad_from s 1 lines

-- the request of a line, if it is one, before those of the lines after it
abbrev pub with_ask : Result (Option Ask) NotPlayable → List Ask → List Ask
with_ask (Ok (Some a)) rest = a ∷ rest
with_ask _ rest = rest

-- the requests of the lines, in their order
abbrev pub asks : Sizes → List (List ℕ) → List Ask
asks s [] = []
asks s (line ∷ rest) = with_ask (asked s line) (asks s rest)

-- threads can play the line
abbrev pub IsPlayable : Result (Option Ask) NotPlayable → Type 0
IsPlayable (Err e) = ⊥
IsPlayable (Ok said) = Unit {0}

-- the fault names the first line that threads can't play
abbrev pub IsBadLine : Option ℕ → PlayFault → Type 0
IsBadLine None why = ⊥
IsBadLine (Some number) why = why ≡ BadLine number

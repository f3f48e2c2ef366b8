-- The replies of a job; those of successful touches are stored as counts.
use Rattle.std.specs.Prelude.{ℕ, List, [], ◌∷◌, ◌++◌, replicate}
use Rattle.std.specs.List.{All}
use Rattle.warm_replica.specs.declared.job.StepReply.{StepReply}
use Rattle.warm_replica.specs.declared.job.StepReply.TheVariants.{Touched, Flushed}
use Rattle.warm_replica.specs.declared.replies.Run.{Run}

-- one reply for each step, and the capacity for them
pub record Replied : Type 0 where
  pub items : List StepReply
  pub capacity : ℕ

-- the replies that runs of touches stand for, each with the reply that ended it
abbrev pub ended : List Run → List StepReply
ended [] = []
ended (run ∷ runs) = replicate run.touched Touched ++ run.reply ∷ ended runs

-- the replies that runs of touches stand for, each with the reply that ended it, and then this many
-- touches
abbrev pub replies_of : List Run → ℕ → List StepReply
replies_of runs touched = ended runs ++ replicate touched Touched

-- the step put its reference into the buffer, or had the replica absorb the buffer
abbrev pub IsTaken : StepReply → Type 0
IsTaken Touched = Unit {0}
IsTaken Flushed = Unit {0}
IsTaken reply = ⊥

-- each step put its reference into the buffer, or had the replica absorb the buffer
abbrev pub AreTaken : Replied → Type 0
AreTaken replies = All IsTaken replies.items

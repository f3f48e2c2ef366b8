-- The effect of the steps of a job.
use Rattle.std.specs.Prelude.{◌≡◌, ◌⊎◌, ℕ, ◌<◌, ◌≤◌, List, [], ◌∷◌, ◌++◌, length, Bool, true, false}
use Rattle.std.specs.List.{All}
use Rattle.warm_stamps.specs.declared.Reference.{Reference}
use Rattle.warm_refbuffer.specs.Buffered.{IsCapacity}
use Rattle.warm_machine.specs.declared.operation.Operation.{Operation}
use Rattle.warm_turn.specs.declared.table.EndedPass.{EndedPass}
use Rattle.warm_turn.specs.declared.table.View.{View}
use Rattle.warm_machine.specs.Runs.{operation}
use Rattle.warm_turn.specs.CallHistories.{Extended, Widened}
use Rattle.warm_gossip.specs.declared.call.Call.{Call}
use Rattle.warm_gossip.specs.declared.call.Call.TheVariants.{Absorb}
use Rattle.warm_gossip.specs.declared.call.Reply.{Reply}
use Rattle.warm_gossip.specs.declared.call.Reply.TheVariants.{Done}
use Rattle.warm_replica.specs.declared.fault.FlushFault.TheVariants.{Memory, TurnsSpent}
use Rattle.warm_replica.specs.declared.job.Job.{Job}
use Rattle.warm_replica.specs.declared.job.Step.{Step}
use Rattle.warm_replica.specs.declared.job.Step.TheVariants.{Touch, Flush}
use Rattle.warm_replica.specs.declared.job.Step.TheVariants as job_step
use Rattle.warm_replica.specs.declared.job.StepReply.{StepReply}
use Rattle.warm_replica.specs.declared.job.StepReply.TheVariants.{Touched, Full, Flushed, Answered}
use Rattle.warm_replica.specs.declared.job.StepReply.TheVariants.{Failed}
use Rattle.warm_gossip.specs.Batches.{no_memory}
use Rattle.warm_replica.specs.Pairs.{Triples}
use Rattle.warm_replica.specs.Replied.{Replied}
use Rattle.warm_replica.specs.Working.{Working}

-- calls of a node, each with its reply, in their order
abbrev pub Calls : Type 0
Calls = List (Operation Call Reply)

-- The reply of a step of a worker. Its buffer has this capacity and holds these references, and its
-- pass of number n is spent or not: whether it is spent afterwards, the buffer's contents
-- afterwards, and the calls of the pass that the step made. A spent pass is never answered again
abbrev pub Gave : (capacity n : ℕ) → Bool → List Reference → Step → StepReply → Bool
    → List Reference → Calls → Type 0
Gave capacity n spent held (Touch r) Touched after held' made = (length held < capacity)
    × (after ≡ spent) × (held' ≡ held ++ r ∷ []) × (made ≡ [])
Gave capacity n spent held (Touch r) (Full q) after held' made = (capacity ≤ length held) × (q ≡ r)
    × (after ≡ spent) × (held' ≡ held) × (made ≡ [])
Gave capacity n spent held Flush Flushed after held' made = (spent ≡ false) × (after ≡ false)
    × (held' ≡ []) × (made ≡ operation n (Absorb held) Done ∷ [])
Gave capacity n spent held Flush (Failed Memory) after held' made =
    (held' ≡ held)
    × (((after ≡ spent) × (made ≡ []))
    ⊎ ((spent ≡ false) × (after ≡ false) × (made ≡ operation n (Absorb held) no_memory ∷ [])))
Gave capacity n spent held Flush (Failed TurnsSpent) after held' made = (after ≡ true)
    × (held' ≡ held) × (made ≡ [])
Gave capacity n spent held (job_step.Call call) (Answered reply) after held' made = (spent ≡ false)
    × (after ≡ false) × (held' ≡ held) × (made ≡ operation n call reply ∷ [])
Gave capacity n spent held (job_step.Call call) (Failed TurnsSpent) after held' made =
    (after ≡ true) × (held' ≡ held) × (made ≡ [])
Gave capacity n spent held step reply after held' made = ⊥

-- The replies of steps of a worker, one after another. Its buffer has this capacity and holds these
-- references: whether the pass is spent afterwards, the buffer's contents afterwards, and the calls
-- that the steps made.
abbrev pub AllGave : (capacity n : ℕ) → Bool → List Reference → List Step → List StepReply → Bool
    → List Reference → Calls → Type 0
AllGave capacity n spent held [] [] after held' made = (after ≡ spent) × (held' ≡ held)
    × (made ≡ [])
AllGave capacity n spent held (s ∷ ss) (r ∷ rs) after held' made =
    (between : Bool) × (mid : List Reference) × (one : Calls) × (rest : Calls)
    × Gave capacity n spent held s r between mid one × (made ≡ one ++ rest)
    × AllGave capacity n between mid ss rs after held' rest
AllGave capacity n spent held [] (r ∷ rs) after held' made = ⊥
AllGave capacity n spent held (s ∷ ss) [] after held' made = ⊥

module _ {X : Type 0} where
  -- a worker took these steps, with these replies
  abbrev pub StepsWent : Working X Call Reply → List Step → List StepReply → Working X Call Reply
      → Type 0
  StepsWent old steps replies new =
      (made : Calls)
      × AllGave old.buffer.capacity old.pass.view.number old.pass.view.found_last old.buffer.refs
      steps replies new.pass.view.found_last new.buffer.refs made
      × (new.buffer.capacity ≡ old.buffer.capacity) × Extended old.pass.view made new.pass.view

  -- a worker took one step, with this reply
  abbrev pub StepWent : Working X Call Reply → Step → StepReply → Working X Call Reply → Type 0
  StepWent old step reply new =
      (made : Calls)
      × Gave old.buffer.capacity old.pass.view.number old.pass.view.found_last old.buffer.refs
      step reply new.pass.view.found_last new.buffer.refs made
      × (new.buffer.capacity ≡ old.buffer.capacity) × Extended old.pass.view made new.pass.view

  -- a job ran, starting from an empty buffer of this capacity
  abbrev pub JobWent : ℕ → List Step → List StepReply → View X Call Reply → View X Call Reply
      → Type 0
  JobWent capacity steps replies v w =
      (held : List Reference) × (made : Calls)
      × AllGave capacity v.number v.found_last [] steps replies w.found_last held made
      × Extended v made w

-- the calls of an ended pass, which did not begin spent, are those of a job with these replies
abbrev pub WentAs : ℕ → List Step → List StepReply → EndedPass Call Reply → Type 0
WentAs capacity steps replies e = (after : Bool) × (held : List Reference)
    × AllGave capacity e.number false [] steps replies after held e.calls

-- the calls of an ended pass, which did not begin spent, are those of this job with these replies
abbrev pub JobWentAs : Job → Replied → EndedPass Call Reply → Type 0
JobWentAs job replies e = WentAs job.cap job.steps.items replies.items e

-- every job has a valid buffer capacity
abbrev pub HaveCapacities : List Job → Type 0
HaveCapacities jobs = All (λ job. IsCapacity job.cap) jobs

-- The jobs were run with these replies: the pass has seen more, and holds one pass for each job,
-- whose calls are that job's, and one pass that made no calls
abbrev pub JobsWent : {X : Type 0} → View X Call Reply → List Job → List Replied → View X Call Reply
    → Type 0
JobsWent v jobs replies w =
    (fan : EndedPass Call Reply) × (more : List (EndedPass Call Reply)) × Widened v (fan ∷ more) w
    × (fan.calls ≡ []) × Triples JobWentAs jobs replies more

-- the pass has seen more, and holds passes of unspecified jobs
abbrev pub HasSeenMore : {X : Type 0} → View X Call Reply → View X Call Reply → Type 0
HasSeenMore v w = (more : List (EndedPass Call Reply)) × Widened v more w

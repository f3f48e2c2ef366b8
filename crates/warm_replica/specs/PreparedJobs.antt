-- The steps of a run of jobs: their allocations, and the results of their threads.
use Rattle.std.specs.Prelude.{◌≡◌, List, Result, OnOk, IfOk}
use Rattle.std.specs.Global.{Vec}
use Rattle.warm_turn.specs.declared.table.EndedPass.{EndedPass}
use Rattle.warm_turn.specs.declared.table.View.{View}
use Rattle.warm_turn.specs.CallHistories.{Widened}
use Rattle.warm_gossip.specs.declared.call.Call.{Call}
use Rattle.warm_gossip.specs.declared.call.Reply.{Reply}
use Rattle.warm_replica.specs.declared.prepared_job.PreparedJob.{PreparedJob}
use Rattle.warm_replica.specs.declared.fault.NoThread.{NoThread}
use Rattle.warm_replica.specs.declared.job.Job.{Job}
use Rattle.warm_replica.specs.Jobs.{JobWent, WentAs}
use Rattle.warm_replica.specs.Pairs.{Pairs, Triples}
use Rattle.warm_replica.specs.Replied.{Replied}

-- the prepared job has a buffer of the job's capacity, and the same steps
abbrev pub IsPrepared : Job → PreparedJob → Type 0
IsPrepared job prepared = (job.cap ≡ prepared.buffer.capacity) × (job.steps ≡ prepared.steps)

-- each prepared job has a buffer of its job's capacity and the same steps, in the jobs' order
abbrev pub ArePrepared : List Job → List PreparedJob → Type 0
ArePrepared = Pairs IsPrepared

-- the calls of an ended pass are those of this job, with these replies
abbrev pub PreparedJobWentAs : PreparedJob → Replied → EndedPass Call Reply → Type 0
PreparedJobWentAs prepared replies e =
    WentAs prepared.buffer.capacity prepared.steps.items replies.items e

module _ {X : Type 0} where
  -- a prepared job ran, starting from an empty buffer
  abbrev pub PreparedJobWent : PreparedJob → Replied → View X Call Reply → View X Call Reply
      → Type 0
  PreparedJobWent prepared replies v w =
      JobWent prepared.buffer.capacity prepared.steps.items replies.items v w

  -- the pass has seen more, and holds more passes: if all jobs were started, one for each of them,
  -- with the calls of that job
  abbrev pub HasFanned : View X Call Reply → List PreparedJob → Result (Unit {0}) NoThread
      → List Replied → View X Call Reply → Type 0
  HasFanned v jobs result replies w =
      (more : List (EndedPass Call Reply)) × Widened v more w
      × OnOk result (Triples PreparedJobWentAs jobs replies more)

  -- the pass has seen more, and holds more passes: if the result has the replies, one for each of
  -- the jobs, with the calls of that job and its replies
  abbrev pub Fanned : View X Call Reply → List PreparedJob → Result (Vec Replied) NoThread
      → View X Call Reply → Type 0
  Fanned v jobs result w =
      (more : List (EndedPass Call Reply)) × Widened v more w
      × IfOk result (λ replies. Triples PreparedJobWentAs jobs replies.items more)

-- The calls of a machine while its workers ran, and while mail was exchanged.
use Rattle.std.specs.Prelude.{◌≡◌, ℕ, List}
use Rattle.std.specs.Global.{Vec}
use Rattle.std.specs.List.{All}
use mathlib.Core.Option.{some}
use lib.ListN.{get_elem?}
use Rattle.warm_turn.specs.declared.table.EndedPass.{EndedPass}
use Rattle.warm_machine.specs.Runs.{Runs}
use Rattle.warm_turn.specs.CallHistories.{NoRepeat, calls_by}
use Rattle.warm_gossip.specs.declared.call.Call.{Call}
use Rattle.warm_gossip.specs.declared.call.Reply.{Reply}
use Rattle.warm_replica.specs.declared.job.Job.{Job}
use Rattle.warm_replica.specs.Jobs.{Calls, JobWentAs}
use Rattle.warm_replica.specs.Pairs.{Triples}
use Rattle.warm_replica.specs.Replied.{AreTaken, Replied}
use Rattle.warm_threads.specs.Exchanges.{SendsAll, IsReceipt}

module _ {X : Type 0} (goes : X → Call → Reply → X → Type 0) where
  -- a legal list of calls of this kind leads from one state to the other
  abbrev pub LeadsBy : (Calls → Type 0) → X → X → Type 0
  LeadsBy Kind x z = (calls : Calls) × Runs goes x calls z × Kind calls

  -- A legal list of calls leads from one state to the other in which the calls of each job's own
  -- number are exactly the flushes of that job's steps, all of them successful; no two jobs have
  -- the same number
  pub record Works (jobs : List Job) (x z : X) : Type 0 where
    pub calls : Calls
    pub runs : Runs goes x calls z
    pub replies : List Replied
    pub taken : All AreTaken replies
    pub workers : List (EndedPass Call Reply)
    pub each : Triples JobWentAs jobs replies workers
    pub stand : (k : ℕ) (e : EndedPass Call Reply) → get_elem? workers k ≡ some e
        → calls_by e.number calls ≡ e.calls
    pub apart : NoRepeat workers

  -- The workers of a machine have ended; then it has sent every bucket whole, by exactly these
  -- calls; and then it has received messages, and answered each
  pub record WentOn (jobs : List Job) (x z : X) : Type 0 where
    pub worked : X
    pub shared : X
    pub works : Works jobs x worked
    pub sends : LeadsBy SendsAll worked shared
    pub receives : LeadsBy (All IsReceipt) shared z

  -- The workers of each machine have ended; then it has sent every bucket whole, and then received
  -- messages, and answered each. The lists have, place by place, the machines' old states, the jobs
  -- of their workers, and their new states.
  abbrev pub Went : List X → List (Vec Job) → List X → Type 0
  Went = Triples (λ x list z. WentOn list.items x z)

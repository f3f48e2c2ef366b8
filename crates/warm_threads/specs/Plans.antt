-- The steps by which a worker carries out its requests.
use Rattle.std.specs.Prelude.{◌≡◌, ℕ, ◌+◌, List, [], ◌∷◌, ◌++◌, Bool, true, false, ◌&&◌, ◌==◌}
use Rattle.std.specs.Prelude.{filter, length, map, nat_lt}
use Rattle.std.specs.Global.{Vec}
use Rattle.std.specs.List.{All}
use Rattle.warm_stamps.specs.declared.Reference.{Reference}
use Rattle.warm_replica.specs.declared.job.Job.{Job}
use Rattle.warm_replica.specs.declared.job.Step.TheVariants.{Touch, Flush}
use Rattle.warm_replica.specs.Pairs.{Pairs}
use Rattle.warm_world.specs.Sizes.{Sizes}
use Rattle.warm_threads.specs.declared.ask.Ask.{Ask}
use Rattle.warm_threads.specs.declared.ask.Task.{Task}
use Rattle.warm_threads.specs.declared.ask.Task.TheVariants as task
use Rattle.warm_threads.specs.Numbers.{Numbered}
use Rattle.warm_threads.specs.Steps.{Planned, nothing_planned}

-- a full buffer is flushed first
abbrev pub plan_reference : Planned → Bool → Reference → Planned
plan_reference p true r = record { steps = p.steps ++ Touch r ∷ []; held = p.held + 1 }
plan_reference p false r = record { steps = p.steps ++ Flush ∷ Touch r ∷ []; held = 1 }

-- the steps for one more reference, or for a flush
abbrev pub plan_task : ℕ → Planned → Task → Planned
plan_task capacity p (task.Reference r) = plan_reference p (nat_lt p.held capacity) r
plan_task capacity p task.Flush = record { steps = p.steps ++ Flush ∷ []; held = 0 }

-- the steps for these requests too, in their order
abbrev pub plan_tasks : ℕ → Planned → List Task → Planned
plan_tasks capacity p [] = p
plan_tasks capacity p (a ∷ rest) = plan_tasks capacity (plan_task capacity p a) rest

-- the request is to this worker of this replica
abbrev pub is_of : ℕ → ℕ → Ask → Bool
is_of i w a = (a.replica == i) && (a.worker == w)

-- the requests to the worker of the replica, in their order
abbrev pub tasks_of : ℕ → ℕ → List Ask → List Task
tasks_of i w asks = map (λ a. a.task) (filter (is_of i w) asks)

-- the worker's plan after these requests
abbrev pub plan_of : Sizes → List Ask → ℕ → ℕ → Planned
plan_of s asks i w = plan_tasks s.buffer nothing_planned (tasks_of i w asks)

-- a list of plans for each replica, in each a plan for each worker
pub record IsShaped (s : Sizes) (plans : List (Vec Planned)) : Type 0 where
  pub replicas : length plans ≡ s.replicas
  pub workers : All (λ list. length list.items ≡ s.workers) plans

-- the plans are those for the requests to each worker of each replica
abbrev pub ArePlansOf : Sizes → List Ask → List (Vec Planned) → Type 0
ArePlansOf s asks plans =
    Numbered (λ i list. Numbered (λ w plan. plan ≡ plan_of s asks i w) list.items) plans

-- a job that carries out the plan, and flushes last
pub record DoesPlan (capacity : ℕ) (plan : Planned) (job : Job) : Type 0 where
  pub cap_is : job.cap ≡ capacity
  pub steps : job.steps.items ≡ plan.steps ++ Flush ∷ []

-- jobs that carry out the plans, and flush last, worker by worker and replica by replica
abbrev pub DoPlans : ℕ → List (Vec Planned) → List (Vec Job) → Type 0
DoPlans capacity plans jobs =
    Pairs (λ ps js. Pairs (DoesPlan capacity) ps.items js.items) plans jobs

-- The job of a worker of a replica: its buffer is as large as the setup says. It carries out the
-- worker's requests, in their order, flushes a full buffer before a further reference, and flushes
-- last.
pub record IsJobOf (s : Sizes) (asks : List Ask) (i w : ℕ) (job : Job) : Type 0 where
  pub capacity : job.cap ≡ s.buffer
  pub steps : job.steps.items ≡ (plan_of s asks i w).steps ++ Flush ∷ []

-- a list of jobs for each replica, in each the job of each worker; replicas and workers are counted
-- from 1
pub record AreJobsOf (s : Sizes) (asks : List Ask) (jobs : List (Vec Job)) : Type 0 where
  pub replicas : length jobs ≡ s.replicas
  pub workers : All (λ list. length list.items ≡ s.workers) jobs
  pub each : Numbered (λ i list. Numbered (IsJobOf s asks i) list.items) jobs

-- The plans for the requests.
use Rattle.std.proofs.Common.{◌≡◌, ◌≢◌, ℕ, ◌+◌, ◌<◌, ◌≤◌, Bool, true, false, ◌==◌, List, [], ◌∷◌, ◌++◌, length, map, cond, Option, refl, sym, ap, subst, ◌∙◌}
use Rattle.std.specs.Prelude.{filter, nat_le, replicate, slice_index_or, slice_set}
use Rattle.std.specs.Global.{Vec}
use Rattle.std.proofs.lemmas.Bool.{and_from, and_left, and_parts, and_right, eq-eqb, leb-true, ne_eqb}
use Rattle.std.proofs.lemmas.List.{append-nil, map-append}
use Rattle.std.proofs.lemmas.List.Elements.{filter-append}
use Rattle.warm_replica.specs.declared.job.Job.{Job}
use Rattle.warm_replica.specs.Pairs.{Pairs}
use Rattle.warm_world.specs.Sizes.{Sizes}
use Rattle.warm_threads.specs.declared.ask.Ask.{Ask}
use Rattle.warm_threads.specs.declared.ask.Task.{Task}
use Rattle.warm_threads.specs.Asks.{has_worker, is_number}
use Rattle.warm_threads.specs.Numbers.{Numbered}
use Rattle.warm_threads.specs.Steps.{Planned, nothing_planned}
use Rattle.warm_threads.specs.Plans.{plan_task, plan_tasks, is_of, tasks_of, plan_of, IsShaped, ArePlansOf, DoesPlan, DoPlans, IsJobOf, AreJobsOf}
use Rattle.warm_threads.proofs.NumberLemmas.{numbered_at, numbered_map, numbered_more, numbered_pairs, numbered_replicate, numbered_set, pairs_length, all_pairs}

-- a worker that there is
pub has_numbers : (s : Sizes) (i w : ℕ) → has_worker s i w ≡ true
    → (1 ≤ i) × (i ≤ s.replicas) × (1 ≤ w) × (w ≤ s.workers)
has_numbers s i w there =
    let both = and_parts (is_number i s.replicas) (is_number w s.workers) there in
    let replica = and_parts (nat_le 1 i) (nat_le i s.replicas) both.0 in
    let worker = and_parts (nat_le 1 w) (nat_le w s.workers) both.1 in
    (leb-true 1 i replica.0, leb-true i s.replicas replica.1, leb-true 1 w worker.0, leb-true w s.workers worker.1)

-- the last request is planned last
plan_tasks_more : (capacity : ℕ) (p : Planned) (before : List Task) (a : Task)
    → plan_tasks capacity p (before ++ a ∷ []) ≡ plan_task capacity (plan_tasks capacity p before) a
plan_tasks_more capacity p [] a = refl
plan_tasks_more capacity p (b ∷ bs) a = plan_tasks_more capacity (plan_task capacity p b) bs a

-- one ask alone
one_asked : (i w : ℕ) (a : Ask) (there : Bool) → is_of i w a ≡ there
    → tasks_of i w (a ∷ []) ≡ cond there (a.task ∷ []) []
one_asked i w a true is = ap (λ (t : Bool). map (λ (b : Ask). b.task) (cond t (a ∷ []) [])) is
one_asked i w a false is = ap (λ (t : Bool). map (λ (b : Ask). b.task) (cond t (a ∷ []) [])) is

asked_more : (i w : ℕ) (before : List Ask) (a : Ask)
    → tasks_of i w (before ++ a ∷ []) ≡ tasks_of i w before ++ tasks_of i w (a ∷ [])
asked_more i w before a =
    ap (λ (asks : List Ask). map (λ (b : Ask). b.task) asks) (filter-append (is_of i w) before (a ∷ [])) ∙ map-append (λ (b : Ask). b.task) (filter (is_of i w) before) (filter (is_of i w) (a ∷ []))

-- another worker's plan stays
plan_other : (s : Sizes) (before : List Ask) (a : Ask) (i w : ℕ) → is_of i w a ≡ false
    → plan_of s (before ++ a ∷ []) i w ≡ plan_of s before i w
plan_other s before a i w is =
    let same : tasks_of i w (before ++ a ∷ []) ≡ tasks_of i w before = asked_more i w before a ∙ ap (λ (rest : List Task). tasks_of i w before ++ rest) (one_asked i w a false is) ∙ append-nil (tasks_of i w before) in
    ap (λ (asked : List Task). plan_tasks s.buffer nothing_planned asked) same

-- the plan of the requested worker is extended
plan_here : (s : Sizes) (before : List Ask) (a : Ask) (i w : ℕ) → is_of i w a ≡ true
    → plan_of s (before ++ a ∷ []) i w ≡ plan_task s.buffer (plan_of s before i w) a.task
plan_here s before a i w is =
    let more : tasks_of i w (before ++ a ∷ []) ≡ tasks_of i w before ++ a.task ∷ [] = asked_more i w before a ∙ ap (λ (rest : List Task). tasks_of i w before ++ rest) (one_asked i w a true is) in
    ap (λ (asked : List Task). plan_tasks s.buffer nothing_planned asked) more ∙ plan_tasks_more s.buffer nothing_planned (tasks_of i w before) a.task

is_self : (i w : ℕ) (a : Ask) → i ≡ a.replica → w ≡ a.worker → is_of i w a ≡ true
is_self i w a here worker = and_from (a.replica == i) (a.worker == w) (eq-eqb a.replica i (sym here)) (eq-eqb a.worker w (sym worker))

other_replica : (i w : ℕ) (a : Ask) → i ≢ a.replica → is_of i w a ≡ false
other_replica i w a other = and_left (a.replica == i) (a.worker == w) (ne_eqb a.replica i (λ e. other (sym e)))

other_worker : (i w : ℕ) (a : Ask) → w ≢ a.worker → is_of i w a ≡ false
other_worker i w a other = and_right (a.replica == i) (a.worker == w) (ne_eqb a.worker w (λ e. other (sym e)))

-- One more request: the plan of one worker of one replica is extended. The indexes of both are one
-- less than their numbers.
pub plans_more : (s : Sizes) (before : List Ask) (a : Ask) (plans : List (Vec Planned)) (r w : ℕ)
    (old new : Vec Planned) → a.replica ≡ 1 + r → a.worker ≡ 1 + w → r < length plans
    → old ≡ slice_index_or plans r old → w < length old.items
    → new.items ≡ slice_set old.items w
    (plan_task s.buffer (slice_index_or old.items w nothing_planned) a.task)
    → ArePlansOf s before plans → ArePlansOf s (before ++ a ∷ []) (slice_set plans r new)
plans_more s before a plans r w old new replica worker low is there goes h =
    numbered_set 1 r a.replica (λ i list. Numbered (λ v plan. plan ≡ plan_of s before i v) list.items) (λ i list. Numbered (λ v plan. plan ≡ plan_of s (before ++ a ∷ []) i v) list.items) plans new low replica
    (λ i list other. numbered_map 1 (λ v plan. plan ≡ plan_of s before i v) (λ v plan. plan ≡ plan_of s (before ++ a ∷ []) i v) list.items (λ v plan same. same ∙ sym (plan_other s before a i v (other_replica i v a other))))
    here h
  where
    list_is : Numbered (λ v plan. plan ≡ plan_of s before a.replica v) old.items
    list_is = subst (λ (list : Vec Planned). Numbered (λ v plan. plan ≡ plan_of s before a.replica v) list.items) (sym is)
        (numbered_at 1 r a.replica (λ i list. Numbered (λ v plan. plan ≡ plan_of s before i v) list.items) plans old low replica h)

    plan_is : slice_index_or old.items w nothing_planned ≡ plan_of s before a.replica a.worker
    plan_is = numbered_at 1 w a.worker (λ v plan. plan ≡ plan_of s before a.replica v) old.items nothing_planned there worker list_is

    goes_on : plan_task s.buffer (slice_index_or old.items w nothing_planned) a.task
        ≡ plan_of s (before ++ a ∷ []) a.replica a.worker
    goes_on = ap (λ (p : Planned). plan_task s.buffer p a.task) plan_is ∙ sym (plan_here s before a a.replica a.worker (is_self a.replica a.worker a refl refl))

    here : Numbered (λ v plan. plan ≡ plan_of s (before ++ a ∷ []) a.replica v) new.items
    here = subst (λ (items : List Planned). Numbered (λ v plan. plan ≡ plan_of s (before ++ a ∷ []) a.replica v) items) (sym goes)
        (numbered_set 1 w a.worker (λ v plan. plan ≡ plan_of s before a.replica v) (λ v plan. plan ≡ plan_of s (before ++ a ∷ []) a.replica v) old.items _ there worker
        (λ v plan other same. same ∙ sym (plan_other s before a a.replica v (other_worker a.replica v a other))) goes_on list_is)

-- jobs that carry out the plans for the requests
pub jobs_of_plans : (s : Sizes) (asks : List Ask) (plans : List (Vec Planned))
    (jobs : List (Vec Job)) → IsShaped s plans → ArePlansOf s asks plans
    → DoPlans s.buffer plans jobs → AreJobsOf s asks jobs
jobs_of_plans s asks plans jobs shape are do_them = record {
  replicas = pairs_length _ plans jobs do_them ∙ shape.replicas;
  workers = all_pairs (λ ps js. Pairs (DoesPlan s.buffer) ps.items js.items) (λ ps. length ps.items ≡ s.workers) (λ js. length js.items ≡ s.workers) plans jobs
      (λ ps js pairs many. pairs_length (DoesPlan s.buffer) ps.items js.items pairs ∙ many) do_them shape.workers;
  each = numbered_pairs 1 (λ ps js. Pairs (DoesPlan s.buffer) ps.items js.items) (λ i ps. Numbered (λ w plan. plan ≡ plan_of s asks i w) ps.items) (λ i js. Numbered (IsJobOf s asks i) js.items) plans jobs
      (λ i ps js. numbered_pairs 1 (DoesPlan s.buffer) (λ w plan. plan ≡ plan_of s asks i w) (IsJobOf s asks i) ps.items js.items (λ w plan job does same. job_of i w plan job does same)) do_them are;
}
  where
    job_of : (i w : ℕ) (plan : Planned) (job : Job) → DoesPlan s.buffer plan job
        → plan ≡ plan_of s asks i w → IsJobOf s asks i w job
    job_of i w plan job does same = record { capacity = does.cap_is; steps = rw same at does.steps }

-- plans of one replica more, of whose workers nothing is asked
pub plans_begin : (s : Sizes) (n : ℕ) (plans new : List (Vec Planned)) (list : Vec Planned)
    → new ≡ plans ++ list ∷ [] → list.items ≡ replicate n nothing_planned → ArePlansOf s [] plans
    → ArePlansOf s [] new
plans_begin s n plans new list more same h =
    subst (λ (ps : List (Vec Planned)). ArePlansOf s [] ps) (sym more) (numbered_more 1 (1 + length plans) (λ i ps. Numbered (λ w plan. plan ≡ plan_of s [] i w) ps.items) plans list refl h
    (subst (λ (ps : List Planned). Numbered (λ w plan. plan ≡ nothing_planned) ps) (sym same) (numbered_replicate 1 n (λ w plan. plan ≡ nothing_planned) nothing_planned (λ j. refl))))

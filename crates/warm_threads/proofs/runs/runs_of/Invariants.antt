use Rattle.std.proofs.Common.{◌≡◌, ◌++◌, length, map}
use Rattle.std.specs.Vec.Iter.{into_iter_items}
use Rattle.warm_threads.proofs.runs.runs_of.Given as goal

-- the runs so far have the machines and the jobs that were taken, and there is an end of a channel
-- for each that is left
abbrev pub invariant-loop-machine : goal.invariant-loop-machine
invariant-loop-machine g l = record {
  machines : map (λ c. c.machine) l.runs.items ++ into_iter_items l.machine-iterator
      ≡ l.fn.machines.items;
  jobs : map (λ c. c.jobs) l.runs.items ++ into_iter_items l.lists ≡ l.fn.jobs.items;
  ends : length (into_iter_items l.ends) ≡ length (into_iter_items l.machine-iterator);
}

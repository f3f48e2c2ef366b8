-- The steps planned for a worker.
use Rattle.std.specs.Prelude.{ℕ, List, []}
use Rattle.warm_replica.specs.declared.job.Step.{Step}

-- steps, and how many references the worker's buffer holds after them
pub record Planned : Type 0 where
  pub steps : List Step
  pub held : ℕ

-- no steps, and an empty buffer
abbrev pub nothing_planned : Planned
nothing_planned = record { steps = []; held = 0 }

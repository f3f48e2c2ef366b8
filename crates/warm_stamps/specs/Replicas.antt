-- How replicas are numbered.
use Rattle.std.specs.Prelude.{ℕ, ◌<◌, ◌≤◌}
use Rattle.warm_stamps.specs.declared.TheConstants.{MAX_REPLICAS}

-- the valid replica numbers
abbrev pub IsReplica : ℕ → Type 0
IsReplica n = (0 < n) × (n ≤ MAX_REPLICAS)

use Rattle.std.proofs.Common.{ℕ, ◌<◌, ◌≤◌, length, slice_index_or}
use Rattle.warm_pool.specs.declared.TheConstants.{MAX_DEVICES}
use Rattle.warm_world.proofs.nodes.are_few.Given as goal

-- the lists so far are short enough
abbrev pub invariant-loop-list : goal.invariant-loop-list
invariant-loop-list g l = (k : ℕ) → (d : _) → k < l.list-index
    → length (slice_index_or l.devices k d).items ≤ MAX_DEVICES

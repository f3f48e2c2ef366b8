use Rattle.std.proofs.Common.{◌≡◌, ℕ, ◌<◌, IfErr, slice_index_or}
use Rattle.warm_threads.specs.declared.fault.ReplicaRunFault.TheVariants.{Closed}
use Rattle.warm_threads.proofs.runs.first_error.Given as goal

-- no result so far has another fault than `Closed`
abbrev pub invariant-loop-result : goal.invariant-loop-result
invariant-loop-result g l = (k : ℕ) → (d : _) → k < l.result-index
    → IfErr (slice_index_or l.results k d) (λ why. why ≡ Closed)

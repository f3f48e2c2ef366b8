use Rattle.std.proofs.Common.{◌≡◌, ◌++◌, Ok}
use Rattle.std.specs.Vec.Iter.{into_iter_items}
use Rattle.warm_replica.specs.Pairs.{Pairs}
use Rattle.warm_threads.proofs.runs.all_or_first_error.Given as goal

-- the values of the results so far
abbrev pub invariant-loop-result : goal.invariant-loop-result
invariant-loop-result g l = record {
  same : Pairs (λ r t. r ≡ Ok t) l.yielded l.all.items;
  rest : l.yielded ++ into_iter_items l.result-iterator ≡ l.fn.results.items;
}

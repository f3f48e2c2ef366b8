use Rattle.std.proofs.Common.{◌≡◌}
use Rattle.bench_threads.proofs.replica.bring.Given as goal

abbrev pub invariant-loop-i : goal.invariant-loop-i
invariant-loop-i g l = l.worker.pass.table ≡ l.initial.worker.pass.table

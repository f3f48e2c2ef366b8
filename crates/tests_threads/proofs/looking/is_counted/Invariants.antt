use Rattle.std.proofs.Common.{◌≡◌}
use Rattle.tests_threads.proofs.looking.is_counted.Given as goal

-- the worker is of the turn
abbrev pub invariant-loop : goal.invariant-loop
invariant-loop g l = l.thread.pass.table ≡ l.shared.table

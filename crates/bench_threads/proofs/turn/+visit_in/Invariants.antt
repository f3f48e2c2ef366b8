use Rattle.std.proofs.Common.{◌+◌, ◌*◌}
use Rattle.bench_threads.proofs.turn.+visit_in.Given as goal

abbrev pub decreases-visit_in : goal.decreases-visit_in
decreases-visit_in g l = 2 * l.threads

abbrev pub decreases-join+arg2 : goal.decreases-join+arg2
decreases-join+arg2 g l = 2 * l.half + 1

abbrev pub decreases-join+arg3 : goal.decreases-join+arg3
decreases-join+arg3 g l = 2 * l.rest + 1

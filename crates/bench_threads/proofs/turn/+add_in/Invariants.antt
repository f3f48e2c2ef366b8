use Rattle.std.proofs.Common.{◌+◌, ◌*◌}
use Rattle.bench_threads.proofs.turn.+add_in.Given as goal

abbrev pub decreases-add_in : goal.decreases-add_in
decreases-add_in g l = 2 * l.threads

abbrev pub decreases-join+arg2 : goal.decreases-join+arg2
decreases-join+arg2 g l = 2 * l.half + 1

abbrev pub decreases-join+arg3 : goal.decreases-join+arg3
decreases-join+arg3 g l = 2 * l.rest + 1

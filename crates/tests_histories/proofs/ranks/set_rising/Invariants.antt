use Rattle.std.proofs.Common.{◌≡◌, length}
use Rattle.tests_histories.proofs.ranks.set_rising.Given as goal

abbrev pub invariant-loop-slot : goal.invariant-loop-slot
invariant-loop-slot l = length l.contest ≡ l.slots

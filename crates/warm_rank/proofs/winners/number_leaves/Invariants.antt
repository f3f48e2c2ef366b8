use Rattle.warm_rank.proofs.WinnerLemmas.{HasLeavesBelow}
use Rattle.warm_rank.proofs.winners.number_leaves.Given as goal

abbrev pub invariant-loop-slot : goal.invariant-loop-slot
invariant-loop-slot l = HasLeavesBelow l.slots l.nodes.items l.slot

use Rattle.std.proofs.Common.{◌<◌, ◌≤◌, length}
use Rattle.warm_rank.specs.Keys.{key_cmp}
use Rattle.warm_rank.specs.WinnerTree.{HasLeaves}
use Rattle.warm_rank.proofs.WinnerLemmas.{ArePlayedFrom}
use Rattle.warm_rank.proofs.winners.play_all.Given as goal

abbrev pub invariant-loop-node : goal.invariant-loop-node
invariant-loop-node l = record {
  shape : HasLeaves (length l.keys) l.nodes.items;
  low : 0 < l.node;
  high : l.node ≤ length l.keys;
  rest : ArePlayedFrom key_cmp l.keys l.nodes.items l.node;
}

abbrev pub decreases-loop-node : goal.decreases-loop-node
decreases-loop-node l = l.node

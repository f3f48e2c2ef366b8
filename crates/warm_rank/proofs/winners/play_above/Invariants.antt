use Rattle.std.proofs.Common.{◌≡◌, ℕ, ◌<◌, ◌+◌, ◌*◌, length, get_or}
use Rattle.warm_rank.specs.Keys.{key_cmp}
use Rattle.warm_rank.specs.WinnerTree.{HasLeaves, IsPlayedBut}
use Rattle.warm_rank.proofs.WinnerLemmas.{IsOnPath}
use Rattle.warm_rank.proofs.winners.play_above.Given as goal

abbrev pub invariant-loop-node : goal.invariant-loop-node
invariant-loop-node l = record {
  shape : HasLeaves (length l.keys) l.nodes.items;
  high : l.node < 2 * length l.keys;
  rest : IsPlayedBut key_cmp l.keys l.nodes.items l.node;
  path : IsOnPath (length l.keys + l.slot) l.node;
  same : (j : ℕ) → j < l.node → get_or l.nodes.items j 0 ≡ get_or l.initial.nodes.items j 0;
}

abbrev pub decreases-loop-node : goal.decreases-loop-node
decreases-loop-node l = l.node

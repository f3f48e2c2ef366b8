use Rattle.std.proofs.Common.{◌≡◌, length}
use Rattle.warm_player.specs.Text.{words}
use Rattle.warm_player.proofs.text.after_spaces.Given as goal

abbrev pub invariant-loop-rest : goal.invariant-loop-rest
invariant-loop-rest l = words l.rest ≡ words l.text

abbrev pub decreases-loop-rest : goal.decreases-loop-rest
decreases-loop-rest l = length l.rest

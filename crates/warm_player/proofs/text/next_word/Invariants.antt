use Rattle.std.proofs.Common.{◌≡◌, length}
use Rattle.warm_player.specs.Text.{words}
use Rattle.warm_player.proofs.text.next_word.Given as goal

abbrev pub invariant-loop-word : goal.invariant-loop-word
invariant-loop-word l = words l.rest ≡ words l.line

abbrev pub decreases-loop-word : goal.decreases-loop-word
decreases-loop-word l = length l.rest

use Rattle.std.proofs.Common.{◌≡◌, length}
use Rattle.std.specs.Option.{is_some}
use Rattle.warm_player.specs.Fields.{hex_pairs}
use Rattle.warm_player.proofs.fields.spells_bytes.Given as goal

abbrev pub invariant-loop-after : goal.invariant-loop-after
invariant-loop-after l = is_some (hex_pairs l.rest) ≡ is_some (hex_pairs l.word)

abbrev pub decreases-loop-after : goal.decreases-loop-after
decreases-loop-after l = length l.rest

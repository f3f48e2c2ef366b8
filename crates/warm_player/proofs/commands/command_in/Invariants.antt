use Rattle.std.proofs.Common.{◌≡◌, drop, map}
use Rattle.warm_player.specs.Grammar.{looked_up}
use Rattle.warm_player.proofs.commands.command_in.Given as goal

abbrev pub invariant-loop-name : goal.invariant-loop-name
invariant-loop-name l =
    looked_up (map (λ row. (row.0.now, row.1)) (drop l.name-index l.rows)) l.word
    ≡ looked_up (map (λ row. (row.0.now, row.1)) l.rows) l.word

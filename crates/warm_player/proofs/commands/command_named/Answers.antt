use Rattle.std.proofs.Common.{◌∙◌, ap, sym, map}
use Rattle.std.specs.Prelude.{option_map}
use Rattle.warm_player.specs.Grammar.{commands}
use Rattle.warm_player.specs.Parsing.{reader_of}
use Rattle.warm_player.specs.declared.commands.TheConstants.{COMMANDS}
use Rattle.warm_player.proofs.CommandTableLemmas.{looked_up-map}
use Rattle.warm_player.proofs.commands.command_named.Goals as goal

pub returns : goal.returns
unfolding commands
returns c = ap (option_map reader_of) c.command_in.ensures ∙ sym (looked_up-map reader_of (map (λ row. (row.0.now, row.1)) COMMANDS) c.args.word.now)

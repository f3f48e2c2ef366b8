use Rattle.std.proofs.Common.{◌∙◌, ap, map}
use Rattle.std.specs.Prelude.{option_and_then}
use Rattle.warm_setup.specs.Words.{command_by}
use Rattle.warm_setup.proofs.SubcommandLemmas.{lacks_value, refused_for_value}
use Rattle.warm_setup.proofs.command.command_of.Goals as goal

pub returns-in_default : goal.returns-in_default
returns-in_default g c =
    refused_for_value (map g.S.AsStr.text c.args.words.now) c.refused.result
    (lacks_value (map g.S.AsStr.text c.args.words.now) c.in_ok-matches.ensures.kinds (c.in_default.ensures ∙ ap (option_and_then command_by) c.in_ok-matches.ensures.rows))
    c.refused.ensures

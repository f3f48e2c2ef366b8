use Rattle.warm_setup.proofs.command.non_utf8_argument.Goals as goal

pub returns : goal.returns
returns c = c.refused.ensures

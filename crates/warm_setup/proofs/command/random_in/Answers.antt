use Rattle.std.proofs.Common.{◌∙◌, codes}
use Rattle.clap.specs.Words.{found_of, rows_of}
use Rattle.clap.proofs.WalkLemmas.{first_value-rows}
use Rattle.warm_setup.proofs.SubcommandMatchLemmas.{random_asked}
use Rattle.warm_setup.proofs.command.random_in.Goals as goal

pub returns : goal.returns
returns c =
    random_asked (rows_of (found_of c.args.found.now)) c.in_ok-seed.seed c.in_ok-events.events _ c.in_ok-seed.ensures c.in_ok-events.ensures
    (c.get_str.ensures ∙ first_value-rows (found_of c.args.found.now) (codes "setup"))

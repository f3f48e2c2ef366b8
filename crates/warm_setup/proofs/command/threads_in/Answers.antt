use Rattle.std.proofs.Common.{◌∙◌, codes}
use Rattle.clap.specs.Words.{found_of, rows_of}
use Rattle.clap.proofs.WalkLemmas.{first_value-rows}
use Rattle.warm_setup.proofs.SubcommandMatchLemmas.{threads_asked, threads_none}
use Rattle.warm_setup.proofs.command.threads_in.Goals as goal

pub returns : goal.returns
returns c =
    threads_asked (rows_of (found_of c.args.found.now)) c.in_ok-file.file.now _ (c.in_ok-file.ensures ∙ first_value-rows (found_of c.args.found.now) (codes "file"))
    (c.get_str-2.ensures ∙ first_value-rows (found_of c.args.found.now) (codes "setup"))

pub returns-in_err-file : goal.returns-in_err-file
returns-in_err-file c = rw c.from_residual.ensures (threads_none (rows_of (found_of c.args.found.now)) (c.in_err-file.ensures ∙ first_value-rows (found_of c.args.found.now) (codes "file")))

use Rattle.std.proofs.Common.{◌∙◌, ◌-◌, ◌^◌, ap, arith, codes}
use Rattle.std.specs.Prelude.{option_and_then}
use Rattle.std.specs.Str.Parse.{ParsesUnsigned, HasUnsignedDigitsIfOk, ExplainsUnsignedError}
use Rattle.clap.specs.Words.{found_of}
use Rattle.clap.proofs.WalkLemmas.{one_text-rows}
use Rattle.warm_setup.specs.Words.{number_in}
use Rattle.warm_setup.proofs.SubcommandMatchLemmas.{reads_argument}
use Rattle.warm_setup.proofs.command.seed_in.Goals as goal

pub returns : goal.returns
returns c =
    reads_argument _ (λ bs r. ParsesUnsigned 64 10 bs r × ExplainsUnsignedError 10 bs r × HasUnsignedDigitsIfOk bs r) 64 (2 ^ 64 - 1) _ _ (λ u x g. g.0) (omega arith) (omega arith) c.get_one.ensures.none c.get_one.ensures.value
    ∙ ap (option_and_then (number_in (2 ^ 64 - 1))) (one_text-rows (found_of c.args.found.now) (codes "seed"))

use Rattle.std.proofs.Common.{◌∙◌, sym, codes}
use Rattle.clap.specs.Words.{found_of, rows_of, subcommand_rows_of}
use Rattle.clap.proofs.WalkLemmas.{first_value-rows}
use Rattle.warm_setup.proofs.SubcommandMatchLemmas.{found_is, mapped_twice, asks_play, asks_random, asks_threads}
use Rattle.warm_setup.proofs.command.asked_in.Goals as goal

pub returns-then-eq : goal.returns-then-eq
returns-then-eq c =
    asks_play (subcommand_rows_of c.args.matches.now) c.in_ok-name.name.now (rows_of (found_of c.in_ok-name.found.now)) _ _ (found_is _ _ _ (c.in_ok-name.ensures.name ∙ mapped_twice _ _ _) c.in_ok-name.ensures.rows) (sym c.if-eq.true ∙ c.eq.ensures)
    (c.get_str-file.ensures ∙ first_value-rows (found_of c.in_ok-name.found.now) (codes "file")) (c.get_str-setup.ensures ∙ first_value-rows (found_of c.in_ok-name.found.now) (codes "setup"))

pub returns-then-eq-2 : goal.returns-then-eq-2
returns-then-eq-2 c =
    asks_random (subcommand_rows_of c.args.matches.now) c.in_ok-name.name.now (rows_of (found_of c.in_ok-name.found.now)) _ (found_is _ _ _ (c.in_ok-name.ensures.name ∙ mapped_twice _ _ _) c.in_ok-name.ensures.rows) (sym c.if-eq.false ∙ c.eq.ensures)
    (sym c.if-eq-2.true ∙ c.eq-2.ensures) c.random_in.ensures

pub returns-then-eq-3 : goal.returns-then-eq-3
returns-then-eq-3 c =
    asks_threads (subcommand_rows_of c.args.matches.now) c.in_ok-name.name.now (rows_of (found_of c.in_ok-name.found.now)) _ (found_is _ _ _ (c.in_ok-name.ensures.name ∙ mapped_twice _ _ _) c.in_ok-name.ensures.rows) (sym c.if-eq.false ∙ c.eq.ensures)
    (sym c.if-eq-2.false ∙ c.eq-2.ensures) (sym c.if-eq-3.true ∙ c.eq-3.ensures) c.threads_in.ensures

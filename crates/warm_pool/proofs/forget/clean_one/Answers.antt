use Rattle.std.proofs.Common.{sym, ◌∙◌, ap}
use Rattle.warm_frame_table.specs.Selection.{selects}
use Rattle.warm_pool.proofs.ForgetLemmas.{not_selected, selected}
use Rattle.warm_pool.proofs.forget.clean_one.Goals as goal

pub returns-then-not-selects : goal.returns-then-not-selects
returns-then-not-selects c = not_selected c.args.which c.args.frames.now c.args.at (ap (selects c.args.which) (sym c.page.ensures) ∙ sym c.selects.ensures ∙ c.if-not-selects.true)

pub returns : goal.returns
returns c = c.clean.ensures ∙ selected c.args.which c.args.frames.now c.args.at (ap (selects c.args.which) (sym c.page.ensures) ∙ sym c.selects.ensures ∙ c.if-not-selects.false)

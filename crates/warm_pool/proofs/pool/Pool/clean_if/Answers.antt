use Rattle.std.proofs.Common.{ap, sym, ◌∙◌}
use Rattle.warm_frame_table.specs.Selection.{selects}
use Rattle.warm_pool.specs.State.{nth_device}
use Rattle.warm_pool.proofs.OtherDeviceLemmas.{on_selected}
use Rattle.warm_pool.proofs.pool.Pool.clean_if.Goals as goal

pub returns-clause-others : goal.returns-clause-others
returns-clause-others g c = λ k out.
    c.write_back.ensures.others k (on_selected c.args.which _ (ap (selects c.args.which) (sym c.page.ensures) ∙ sym c.selects.ensures ∙ c.if-not-selects.false) k out)
    ∙ ap (λ s. nth_device s.devices k) c.self.view_is

pub returns-clause-unflushed : goal.returns-clause-unflushed
returns-clause-unflushed g c = λ k. c.write_back.ensures.unflushed k ∙ ap (λ s. (nth_device s.devices k).calls.flushes) c.self.view_is

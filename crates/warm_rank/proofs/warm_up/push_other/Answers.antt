use Rattle.std.proofs.Common.{◌∙◌, ap, sym}
use Rattle.warm_rank.specs.Relisting.{is_among}
use Rattle.warm_rank.proofs.FallingLemmas.{left_out, other_added}
use Rattle.warm_rank.proofs.warm_up.push_other.Goals as goal

pub returns-then-is_among : goal.returns-then-is_among
returns-then-is_among c =
    left_out c.args.pages.now c.args.key c.args.others.now.items (ap (is_among c.args.pages.now) (sym c.page.ensures) ∙ sym c.is_among.ensures ∙ c.if-is_among.true)

pub returns : goal.returns
returns c =
    c.in_ok-push.ensures.items
    ∙ other_added c.args.pages.now c.args.key c.args.others.now.items (ap (is_among c.args.pages.now) (sym c.page.ensures) ∙ sym c.is_among.ensures ∙ c.if-is_among.false)

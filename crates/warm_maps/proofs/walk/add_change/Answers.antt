use Rattle.std.proofs.Common.{sym, refl, ◌∙◌, Some}
use Rattle.warm_maps.proofs.WalkLemmas.{adds_change}
use Rattle.warm_maps.proofs.walk.add_change.Goals as goal

pub returns : goal.returns
returns c = λ fresh. adds_change (Some c.args.before) c.args.key c.args.more c.args.before c.merge_into.new.known c.args.changed.now.items fresh c.push.new.self.items refl c.merge_into.ensures.now (λ same. c.merge_into.ensures.differs c.if-not-merge_into.false (c.merge_into.ensures.before ∙ sym same)) c.in_ok-push.ensures.items

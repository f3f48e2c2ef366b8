use Rattle.std.proofs.Common.{◌∙◌, ap, length}
use Rattle.warm_rank.proofs.warm_up.HotPages.len.Goals as goal

pub returns : goal.returns
returns c = c.len.ensures ∙ c.self.inside.keys.ok.0 ∙ ap length c.self.view_is

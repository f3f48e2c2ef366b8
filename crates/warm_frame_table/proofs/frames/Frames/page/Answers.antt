use Rattle.std.proofs.Common.{ap, ◌∙◌}
use Rattle.warm_frame_table.proofs.StoredLemmas.{has_page, seen}
use Rattle.warm_frame_table.proofs.frames.Frames.page.Goals as goal

pub page-requires : goal.page-requires
page-requires c = has_page c.self.invariant c.self.view_is c.args.at c.requires

pub returns : goal.returns
returns c = c.page.ensures ∙ ap (λ f. f.page) (seen c.self.invariant c.self.view_is c.args.at c.requires)

use Rattle.std.proofs.Common.{◌∙◌}
use Rattle.warm_frame_table.proofs.StoredLemmas.{seen_count}
use Rattle.warm_frame_table.proofs.frames.Frames.len.Goals as goal

pub returns : goal.returns
returns c = c.len.ensures ∙ c.self.inside.frames.ok.0 ∙ seen_count c.self.invariant c.self.view_is

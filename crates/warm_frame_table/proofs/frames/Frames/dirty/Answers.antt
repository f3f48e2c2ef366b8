use Rattle.std.proofs.Common.{◌∙◌}
use Rattle.warm_frame_table.proofs.StatusLemmas.{seen_dirty}
use Rattle.warm_frame_table.proofs.frames.Frames.dirty.Goals as goal

pub returns : goal.returns
returns c = c.dirty.ensures ∙ seen_dirty c.self.invariant c.self.view_is

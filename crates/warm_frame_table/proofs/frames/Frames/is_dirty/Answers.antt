use Rattle.std.proofs.Common.{ap, refl, ◌∙◌}
use Rattle.warm_frame_table.proofs.StoredLemmas.{has_status, seen}
use Rattle.warm_frame_table.proofs.frames.Frames.is_dirty.Goals as goal

pub get-requires : goal.get-requires
get-requires c = has_status c.self.invariant c.self.view_is c.args.at c.requires refl

pub returns : goal.returns
returns c = ap (λ s. s.dirty) c.get.ensures ∙ ap (λ f. f.dirty) (seen c.self.invariant c.self.view_is c.args.at c.requires)

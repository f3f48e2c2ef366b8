use Rattle.std.proofs.Common.{ap, ◌∙◌}
use Rattle.warm_frame_table.proofs.StoredLemmas.{has_body, body_is, seen}
use Rattle.warm_frame_table.proofs.frames.Frames.generation.Goals as goal

pub index-requires : goal.index-requires
index-requires c = has_body c.self.invariant c.self.view_is c.args.at c.requires c.self.inside.frames.ok.0

pub returns : goal.returns
returns c =
    ap (λ b. b.generation) (body_is c.self.invariant c.self.view_is c.args.at c.requires _ c.index.result.now c.behind-self.view_is c.index.ensures)
    ∙ ap (λ f. f.generation) (seen c.self.invariant c.self.view_is c.args.at c.requires)

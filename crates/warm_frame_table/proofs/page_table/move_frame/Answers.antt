use Rattle.std.proofs.Common.{◌∙◌}
use Rattle.warm_frame_table.proofs.PlaceLemmas.{moved_linked}
use Rattle.warm_frame_table.proofs.page_table.move_frame.Goals as goal

pub returns : goal.returns
returns g c =
    moved_linked g.frames c.args.pages.now _ _ _ _ c.args.frame _ _ c.args.page c.requires.0 c.requires.1.1 c.requires.1.0
    (c.link.ensures.size ∙ c.unlink.ensures.size) c.chain_of-to.ensures.is c.link.ensures.chains

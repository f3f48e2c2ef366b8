use Rattle.warm_frame_table.proofs.MoveLemmas.{unlinked_to}
use Rattle.warm_frame_table.proofs.page_table.unlink.Goals as goal

pub returns-clause-chains : goal.returns-clause-chains
returns-clause-chains g c =
    unlinked_to g.frames c.args.heads.now.items c.args.next.now.items _ _ c.args.chain c.args.frame c.index-to.result.now c.predecessor-last.result
    c.requires.0 c.requires.1.0 c.requires.1.1.0 c.requires.1.1.1 c.predecessor-last.ensures c.index-to.ensures c.set_link.ensures.heads c.set_link.ensures.next

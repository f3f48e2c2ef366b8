use Rattle.warm_frame_table.proofs.MoveLemmas.{linked_to}
use Rattle.warm_frame_table.proofs.page_table.link.Goals as goal

pub returns-clause-chains : goal.returns-clause-chains
returns-clause-chains g c =
    linked_to g.frames c.args.heads.now.items c.args.next.now.items _ _ c.args.chain c.args.frame c.link_after.result c.args.last
    c.requires.0 c.requires.1.0 c.requires.1.1.0 c.requires.1.1.1.0 c.requires.1.1.1.1
    (rw (c.deref.ensures.value, c.deref-2.ensures.value) at c.link_after.ensures) c.set_link.ensures.heads c.set_link.ensures.next

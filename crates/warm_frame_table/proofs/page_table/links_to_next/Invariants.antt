use Rattle.warm_frame_table.specs.stored.Chains.{AreInTurn}
use Rattle.warm_frame_table.proofs.page_table.links_to_next.Given as goal

abbrev pub invariant-loop-frame : goal.invariant-loop-frame
invariant-loop-frame l = AreInTurn l.frame l.next.items

use Rattle.warm_frame_table.specs.stored.Chains.{chains_of}
use Rattle.warm_frame_table.proofs.page_table.PageTable.set.Given as goal

abbrev pub ghost-move_frame : goal.ghost-move_frame
ghost-move_frame a = chains_of a.pages.now

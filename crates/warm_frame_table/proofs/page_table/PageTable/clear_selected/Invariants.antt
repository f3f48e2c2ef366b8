use Rattle.warm_frame_table.specs.stored.Chains.{chains_of}
use Rattle.warm_frame_table.proofs.page_table.PageTable.clear_selected.Given as goal

abbrev pub ghost-link_all : goal.ghost-link_all
ghost-link_all a = chains_of a.pages.now

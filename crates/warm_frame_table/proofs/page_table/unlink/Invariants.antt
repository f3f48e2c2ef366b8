use Rattle.warm_frame_table.proofs.page_table.unlink.Given as goal

abbrev pub ghost-predecessor : goal.ghost-predecessor
ghost-predecessor g a = g.frames

use Rattle.std.proofs.Common.{length, set}
use Rattle.warm_frame_table.proofs.page_table.move_frame.Given as goal

abbrev pub ghost-unlink : goal.ghost-unlink
ghost-unlink g a = g.frames

abbrev pub ghost-link : goal.ghost-link
ghost-link g a = set g.frames a.frame (length a.heads.now.items)

abbrev pub ghost-predecessor : goal.ghost-predecessor
ghost-predecessor g a = set g.frames a.frame (length a.heads.now)

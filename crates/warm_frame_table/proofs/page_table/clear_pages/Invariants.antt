use Rattle.std.proofs.Common.{◌≡◌}
use Rattle.warm_frame_table.proofs.VacateLemmas.{cleared_to}
use Rattle.warm_frame_table.proofs.page_table.clear_pages.Given as goal

-- the frames before the current one are cleared as selected
abbrev pub invariant-loop-frame : goal.invariant-loop-frame
invariant-loop-frame l = l.pages.items ≡ cleared_to l.which l.frame l.fn.pages.items

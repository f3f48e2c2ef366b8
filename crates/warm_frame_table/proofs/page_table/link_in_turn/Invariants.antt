use Rattle.std.proofs.Common.{◌≡◌, ◌<◌, ◌+◌, ℕ, length, get_or}
use Rattle.warm_frame_table.proofs.page_table.link_in_turn.Given as goal

-- the frames before the current one are linked
abbrev pub invariant-loop-frame : goal.invariant-loop-frame
invariant-loop-frame l = record {
  count : length l.next.items ≡ length l.fn.next.items;
  links : (frame : ℕ) → frame < l.frame → get_or l.next.items frame 0 ≡ frame + 1;
}

use Rattle.std.proofs.Common.{suc, ◌≡◌, ◌≤◌, ◌+◌, length}
use Rattle.warm_frame_table.specs.stored.Chains.{AreChains}
use Rattle.warm_frame_table.proofs.RelinkLemmas.{linked_from}
use Rattle.warm_frame_table.proofs.page_table.link_all.Given as goal

-- the frames from the current one on are in their chains, and no other frame is in one
abbrev pub invariant-loop-frame : goal.invariant-loop-frame
invariant-loop-frame g l = record {
  high : l.frame ≤ length l.pages;
  size : length l.heads.items ≡ length l.pages + 1;
  chains : AreChains (linked_from l.frame (length l.heads.items) g.frames) l.heads.items l.next.items;
}

abbrev pub decreases-loop-frame : goal.decreases-loop-frame
decreases-loop-frame g l = l.frame

abbrev pub ghost-link : goal.ghost-link
ghost-link g a = linked_from (suc a.frame) (length a.heads.now.items) g.frames

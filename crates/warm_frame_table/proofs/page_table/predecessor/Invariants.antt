use Rattle.std.proofs.Common.{◌-◌, ◌≤◌}
use Rattle.warm_frame_table.specs.stored.Chains.{IsFirstFrom, IsOf, after}
use Rattle.warm_frame_table.proofs.page_table.predecessor.Given as goal

-- the current frame is the first one after the last that was passed
abbrev pub invariant-loop-at : goal.invariant-loop-at
invariant-loop-at g l = record {
  first : IsFirstFrom g.frames l.chain (after l.last) l.at;
  passed : IsOf g.frames l.chain l.last;
  below : after l.last ≤ l.frame;
}

abbrev pub decreases-loop-at : goal.decreases-loop-at
decreases-loop-at g l = l.frame - l.at

use Rattle.std.proofs.Common.{◌≡◌, length, take}
use Rattle.warm_rank.specs.Laws.{pages_in}
use Rattle.warm_frame_table.proofs.page_table.count_held.Given as goal

-- the frames so far were counted
abbrev pub invariant-loop-at : goal.invariant-loop-at
invariant-loop-at l = l.count ≡ length (pages_in (take l.at l.pages))

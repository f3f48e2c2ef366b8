use Rattle.std.proofs.Common.{◌≡◌, replicate}
use Rattle.warm_frame_table.specs.stored.Parts.{fresh_body}
use Rattle.warm_frame_table.proofs.frames.fresh_frames.Given as goal

abbrev pub invariant-loop : goal.invariant-loop
invariant-loop l = l.made.items ≡ replicate l.counter (fresh_body (replicate l.page_size 0))

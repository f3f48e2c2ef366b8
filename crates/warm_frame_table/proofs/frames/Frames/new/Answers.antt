use Rattle.std.proofs.Common.{ap}
use Rattle.warm_frame_table.proofs.StoredLemmas.{fresh_tied, fresh_become}
use Rattle.warm_frame_table.proofs.frames.Frames.new.Goals as goal

pub invariant_of-result : goal.invariant_of-result
invariant_of-result c =
    fresh_tied c.args.frames c.args.page_size c.in_ok-page_table.ensures c.in_ok-statuses.ensures c.in_ok-bodies.ensures c.in_ok-contest.ensures

pub returns : goal.returns
returns c =
    ap (λ fs. record { page_size = c.args.page_size; frames = fs })
    (fresh_become c.args.frames c.args.page_size c.in_ok-page_table.ensures c.in_ok-statuses.ensures c.in_ok-bodies.ensures)

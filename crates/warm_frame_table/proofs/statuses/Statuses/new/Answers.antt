use Rattle.std.proofs.Common.{ap, sym, ◌∙◌}
use Rattle.warm_frame_table.specs.stored.Statuses.{dirty_statuses}
use Rattle.warm_frame_table.proofs.StatusLemmas.{none_dirty}
use Rattle.warm_frame_table.proofs.statuses.Statuses.new.Goals as goal

pub invariant_of-result : goal.invariant_of-result
invariant_of-result c = sym (ap dirty_statuses c.in_ok-all.ensures ∙ none_dirty c.args.frames)

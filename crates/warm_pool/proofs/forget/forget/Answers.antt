use Rattle.std.proofs.Common.{ap}
use Rattle.warm_pool.proofs.ForgetLemmas.{forgotten_frames}
use Rattle.warm_pool.proofs.ClosingLemmas.{clean_to}
use Rattle.warm_pool.proofs.forget.forget.Goals as goal

pub vacate_selected-requires : goal.vacate_selected-requires
vacate_selected-requires c = clean_to c.args.which c.args.frames.now.frames c.clean_selected.new.frames.frames (ap (λ s. s.frames) c.clean_selected.ensures)

pub returns : goal.returns
returns c = forgotten_frames c.args.which c.args.frames.now c.clean_selected.new.frames c.vacate_selected.new.self c.clean_selected.ensures c.vacate_selected.ensures

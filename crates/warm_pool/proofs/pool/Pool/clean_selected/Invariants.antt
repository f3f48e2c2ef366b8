use Rattle.warm_pool.specs.Calls.{FlushesNone}
use Rattle.warm_pool.specs.WritingBack.{WritesBack, cleaned_selected}
use Rattle.warm_pool.specs.steps.WritingBack.{KeepsUnselected}
use Rattle.warm_pool.proofs.pool.Pool.clean_selected.Given as goal

-- the pages of the frames so far were written back, to their devices, and none was flushed
abbrev pub invariant-loop-at : goal.invariant-loop-at
invariant-loop-at g l =
    WritesBack (cleaned_selected l.which l.at l.fn.self.frames) l.fn.self l.self
    × KeepsUnselected l.which l.fn.self l.self × FlushesNone l.fn.self.devices l.self.devices

use Rattle.std.proofs.Common.{arith}
use Rattle.warm_rank.proofs.BehindLemmas.{all_current}
use Rattle.warm_rank.proofs.slots.set_each.Goals as goal

pub returns : goal.returns
returns g c =
    all_current _ _ c.loop-slot.slot c.loop-slot.invariant
    (omega (arith, c.requires, c.loop-slot-test.false, c.loop-slot.auto.slot-end, c.len-slot-end.ensures))

use Rattle.std.proofs.Common.{arith}
use Rattle.warm_frames.proofs.BodyLemmas.{all_listed}
use Rattle.warm_frames.proofs.reading.entries_of.Goals as goal

pub whole-requires : goal.whole-requires
whole-requires c = all_listed c.args.format c.args.body.now c.in_ok-count.count c.in_ok-count.rest.now c.in_ok-entries-2.entries.items (λ i. omega (arith, c.type_inv.body i)) c.in_ok-count.ensures c.in_ok-entries-2.ensures

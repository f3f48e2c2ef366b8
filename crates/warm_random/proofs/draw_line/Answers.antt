use Rattle.std.proofs.Common.{arith}
use Rattle.std.proofs.lemmas.Bool.Decides.{nat_tests}
use Rattle.warm_random.proofs.DrawnLineLemmas.{ref_drawn}
use Rattle.warm_random.proofs.draw_line.Goals as goal

pub returns-in-0-to-3 : goal.returns-in-0-to-3
returns-in-0-to-3 c = ref_drawn c.args.replicas c.args.workers c.args.time c.args.sends c.below.result _ _ _ _ _ _ _ _ c.below.ensures.value (grind (arith, nat_tests)) c.up_to-in-0-to-3.ensures c.up_to-in-0-to-3-2.ensures c.below-in-0-to-3.ensures.value

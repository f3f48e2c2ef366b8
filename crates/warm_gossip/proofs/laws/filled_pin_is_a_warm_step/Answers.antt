use Rattle.warm_gossip.proofs.FilledPinLemmas.{filled_pin_is_a_warm_step}
use Rattle.warm_gossip.proofs.laws.filled_pin_is_a_warm_step.Goals as goal

pub returns : goal.returns
returns c = filled_pin_is_a_warm_step

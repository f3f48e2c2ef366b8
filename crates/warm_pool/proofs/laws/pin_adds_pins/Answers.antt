use Rattle.warm_pool.proofs.AddedPinLemmas.{pin_adds_pins}
use Rattle.warm_pool.proofs.laws.pin_adds_pins.Goals as goal

pub returns : goal.returns
returns c = pin_adds_pins

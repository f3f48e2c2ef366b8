use Rattle.warm_pool.proofs.PinUniquenessLemmas.{pins_go_alike}
use Rattle.warm_pool.proofs.laws.pins_go_alike.Goals as goal

pub returns : goal.returns
returns c = pins_go_alike

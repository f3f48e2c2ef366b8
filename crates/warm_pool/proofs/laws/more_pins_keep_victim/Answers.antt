use Rattle.warm_pool.proofs.AddedPinLemmas.{more_pins_keep_victim, more_pins_keep_frame}
use Rattle.warm_pool.proofs.laws.more_pins_keep_victim.Goals as goal

pub returns : goal.returns
returns c = record { victim = more_pins_keep_victim; frame = more_pins_keep_frame }

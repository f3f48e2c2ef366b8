use Rattle.std.proofs.Common.{refl}
use Rattle.warm_pool.proofs.FillingLemmas.{given_unsure}
use Rattle.tests_nodes.proofs.filled.filled.Goals as goal

pub pin_filled-requires-clause-given : goal.pin_filled-requires-clause-given
pin_filled-requires-clause-given c = given_unsure _ (λ device. refl) c.args.pool.now c.devices-devices.result.now c.devices-devices.ensures _ _

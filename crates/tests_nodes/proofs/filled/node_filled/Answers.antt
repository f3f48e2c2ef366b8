use Rattle.std.proofs.Common.{◌∙◌, refl, ap}
use Rattle.warm_pool.proofs.FillingLemmas.{given_unsure}
use Rattle.tests_nodes.proofs.filled.node_filled.Goals as goal

pub pin_filled-requires-clause-given : goal.pin_filled-requires-clause-given
pin_filled-requires-clause-given c = given_unsure _ (λ device. refl) c.args.node.now.pool c.devices-devices.result.now (c.devices-devices.ensures ∙ ap (λ s. s.devices) c.pool-2.ensures) _ _

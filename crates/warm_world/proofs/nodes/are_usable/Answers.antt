use Rattle.std.proofs.Common.{arith}
use Rattle.warm_world.proofs.ReplicaOpeningLemmas.{few_of_shown, usable_lists}
use Rattle.warm_world.proofs.nodes.are_usable.Goals as goal

pub returns : goal.returns
returns g c = (
  λ few. usable_lists _ c.args.setup c.args.devices.now c.page_size.result (omega (arith, c.if-devices-replicas.false, c.replicas.ensures.value)) c.page_size.ensures.value (c.are_sized.ensures.0 c.if-not-are_sized.false) (c.are_few.ensures.0 few),
  λ usable. c.are_few.ensures.1 (few_of_shown _ c.args.devices.now usable.1),
)

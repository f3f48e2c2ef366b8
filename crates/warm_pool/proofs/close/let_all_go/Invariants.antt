use Rattle.std.proofs.Common.{map, vec_len}
use Rattle.warm_pool.specs.steps.Flushes.{NoneWaits}
use Rattle.warm_pool.proofs.close.let_all_go.Given as goal

abbrev pub invariant-loop-device : goal.invariant-loop-device
invariant-loop-device g l = NoneWaits (map g.D.PageDevice.state l.devices.items)

abbrev pub decreases-loop-device : goal.decreases-loop-device
decreases-loop-device g l = vec_len l.devices

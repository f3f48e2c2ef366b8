use Rattle.std.proofs.Common.{◌≡◌, drop}
use Rattle.warm_setup.specs.Setups.{each, device_in}
use Rattle.warm_setup.proofs.TableWalkLemmas.{each_after, data_of}
use Rattle.warm_setup.proofs.setup.each_device.Given as goal

abbrev pub invariant-loop-value : goal.invariant-loop-value
invariant-loop-value l =
    each_after device_in l.devices.items (data_of (drop l.value-index l.values))
    ≡ each device_in (data_of l.values)

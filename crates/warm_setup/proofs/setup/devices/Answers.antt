use Rattle.toml.specs.View.{view}
use Rattle.warm_setup.proofs.DeviceArrayLemmas.{devices_in-array}
use Rattle.warm_setup.proofs.setup.devices.Goals as goal

pub returns : goal.returns
returns c = rw (devices_in-array (view c.args.value.now) c.in-Some.values.now.items c.as_slice.result.now c.in-Some.ensures c.as_slice.ensures.value) c.devices_of.ensures

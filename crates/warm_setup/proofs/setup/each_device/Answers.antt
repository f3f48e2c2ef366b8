use Rattle.warm_setup.specs.Setups.{device_in}
use Rattle.warm_setup.proofs.TableWalkLemmas.{each_starts, each_goes_on, each_stops, passed, each_is_done}
use Rattle.warm_setup.proofs.setup.each_device.Goals as goal

pub loop-value-init : goal.loop-value-init
loop-value-init c = each_starts device_in _ c.args.values.now c.new-devices.ensures.items

pub loop-value-preserved : goal.loop-value-preserved
loop-value-preserved c = each_goes_on device_in c.loop-value.devices.items c.args.values.now c.loop-value.value-index c.value-item.result _ c.value-item.is c.loop-value-test.true c.loop-value.invariant c.in_ok-device.field-0 _ c.in_ok-device.ensures c.in_ok-push.ensures.items

pub returns-in_err-device : goal.returns-in_err-device
returns-in_err-device c =
    passed (λ devices. devices.items) _ c.from_residual.result c.in_err-device.field-0.0 c.from_residual.ensures.1
    (each_stops device_in c.loop-value.devices.items c.args.values.now c.loop-value.value-index c.value-item.result _ c.value-item.is c.loop-value-test.true c.loop-value.invariant c.in_err-device.field-0.0 c.in_err-device.ensures)

pub returns : goal.returns
returns c = each_is_done device_in _ c.args.values.now c.loop-value.value-index _ c.loop-value-test.false c.loop-value.invariant

use Rattle.warm_setup.specs.SetupView.{device_fields_of}
use Rattle.warm_setup.specs.Setups.{with_device_key}
use Rattle.warm_setup.proofs.TableWalkLemmas.{goes_on, stops, passed, is_done}
use Rattle.warm_setup.proofs.setup.device_keys.Goals as goal

pub loop-key-preserved : goal.loop-key-preserved
loop-key-preserved c = goes_on with_device_key _ c.loop-key.key-iterator c.next.new.self c.in-Some.key.now c.in-Some.value.now c.as_str.result.now _ c.in-Some.ensures.steps c.as_str.ensures.value c.loop-key.invariant _ c.in_ok-keys.ensures

pub returns-in_err-keys : goal.returns-in_err-keys
returns-in_err-keys c =
    passed device_fields_of _ c.from_residual.result c.in_err-keys.field-0.0
    c.from_residual.ensures.1
    (stops with_device_key _ c.loop-key.key-iterator c.next.new.self c.in-Some.key.now c.in-Some.value.now c.as_str.result.now _ c.in-Some.ensures.steps c.as_str.ensures.value c.loop-key.invariant _ c.in_err-keys.ensures)

pub returns : goal.returns
returns c = is_done with_device_key _ c.loop-key.key-iterator _ c.in-None.ensures.steps.0 c.loop-key.invariant

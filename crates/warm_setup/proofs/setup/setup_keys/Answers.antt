use Rattle.warm_setup.specs.SetupView.{settings_of}
use Rattle.warm_setup.specs.Setups.{with_key}
use Rattle.warm_setup.proofs.TableWalkLemmas.{goes_on, stops, passed, is_done}
use Rattle.warm_setup.proofs.setup.setup_keys.Goals as goal

pub loop-key-preserved : goal.loop-key-preserved
loop-key-preserved c = (
  goes_on with_key _ c.loop-key.key-iterator c.next.new.self c.in-Some.key.now c.in-Some.value.now c.as_str.result.now _ c.in-Some.ensures.steps c.as_str.ensures.value c.loop-key.invariant.0 _ c.in_ok-keys.ensures.value,
  c.in_ok-keys.ensures.within c.loop-key.invariant.1,
)

pub returns-in_err-keys-clause-value : goal.returns-in_err-keys-clause-value
returns-in_err-keys-clause-value c =
    passed settings_of _ c.from_residual-in_err-keys.result c.in_err-keys.field-0.0 c.from_residual-in_err-keys.ensures.1
    (stops with_key _ c.loop-key.key-iterator c.next.new.self c.in-Some.key.now c.in-Some.value.now c.as_str.result.now _ c.in-Some.ensures.steps c.as_str.ensures.value c.loop-key.invariant.0 _ c.in_err-keys.ensures.value)

pub returns-clause-value : goal.returns-clause-value
returns-clause-value c = is_done with_key _ c.loop-key.key-iterator _ c.in-None.ensures.steps.0 c.loop-key.invariant.0

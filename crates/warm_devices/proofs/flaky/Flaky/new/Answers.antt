use Rattle.std.proofs.Common.{refl}
use Rattle.warm_devices.proofs.flaky.Flaky.new.Goals as goal

pub returns-clause-calls : goal.returns-clause-calls
returns-clause-calls g c = refl

use Rattle.std.proofs.Common.{refl}
use Rattle.warm_devices.proofs.flaky.is_due.Goals as goal

pub returns-clause-due : goal.returns-clause-due
returns-clause-due c = refl

use Rattle.std.proofs.Common.{ap, sym}
use Rattle.warm_setup.specs.SetupFaults.{code_of}
use Rattle.warm_setup.proofs.setup.SetupFault.code.Goals as goal

pub returns-in-BadKey : goal.returns-in-BadKey
returns-in-BadKey c = ap code_of (sym c.in-BadKey.is)

use Rattle.std.proofs.Common.{ap, sym}
use Rattle.warm_setup.specs.Endings.{command_fault_code}
use Rattle.warm_setup.proofs.command.CmdFault.code.Goals as goal

pub returns-in-Refused : goal.returns-in-Refused
returns-in-Refused c = ap command_fault_code (sym c.in-Refused.is)

use Rattle.std.proofs.Common.{ap, sym}
use Rattle.warm_player.specs.Reading.{line_fault_code}
use Rattle.warm_player.proofs.parse.LineFault.code.Goals as goal

pub returns-in-Bad : goal.returns-in-Bad
returns-in-Bad c = ap line_fault_code (sym c.in-Bad.is)

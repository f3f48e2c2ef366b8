use Rattle.std.specs.List.{All}
use Rattle.warm_threads.specs.Exchanges.{IsReceipt}
use Rattle.warm_threads.specs.Works.{LeadsBy}
use Rattle.warm_threads.proofs.exchange.hear_all.Given as goal

-- what was received so far was answered
abbrev pub invariant-loop : goal.invariant-loop
invariant-loop g l =
    LeadsBy g.M.Machine.goes (All IsReceipt) (g.M.Machine.view l.initial.machine)
    (g.M.Machine.view l.machine)

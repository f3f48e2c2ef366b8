use Rattle.warm_threads.proofs.ExchangeLemmas.{HaveSent}
use Rattle.warm_threads.proofs.exchange.send_all.Given as goal

-- the buckets so far were sent
abbrev pub invariant-loop-number : goal.invariant-loop-number
invariant-loop-number g l =
    HaveSent g.M.Machine.goes l.number (g.M.Machine.view l.initial.machine)
    (g.M.Machine.view l.machine)

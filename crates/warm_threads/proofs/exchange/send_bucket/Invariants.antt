use Rattle.warm_threads.proofs.ExchangeLemmas.{IsSending}
use Rattle.warm_threads.proofs.exchange.send_bucket.Given as goal

-- what the bucket has up to this page was sent
abbrev pub invariant-loop : goal.invariant-loop
invariant-loop g l =
    IsSending g.M.Machine.goes l.fn.bucket (g.M.Machine.view l.fn.machine) l.after
    (g.M.Machine.view l.machine)

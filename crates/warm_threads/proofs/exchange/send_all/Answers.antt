use Rattle.std.proofs.Common.{ℕ, None, subst}
use Rattle.warm_threads.specs.Exchanges.{SendsBucket}
use Rattle.warm_threads.specs.Works.{LeadsBy}
use Rattle.warm_threads.proofs.ExchangeLemmas.{sent_more}
use Rattle.warm_threads.proofs.exchange.send_all.Goals as goal

pub loop-number-preserved : goal.loop-number-preserved
loop-number-preserved g c =
    let x = g.M.Machine.view c.args.machine in
    let y = g.M.Machine.view c.loop-number.machine in
    let z = g.M.Machine.view c.send_bucket.new.machine in
    sent_more g.M.Machine.goes c.loop-number.number x y z c.loop-number.invariant
    (subst (λ (b : ℕ). LeadsBy g.M.Machine.goes (SendsBucket b None) y z) c.in-Some.ensures.value c.in_ok-send_bucket.ensures)

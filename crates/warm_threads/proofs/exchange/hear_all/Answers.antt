use Rattle.warm_threads.proofs.ExchangeLemmas.{received_more}
use Rattle.warm_threads.proofs.exchange.hear_all.Goals.{in-Bytes+in_ok-receive-in-Bytes, in-Stop}
use Rattle.warm_threads.proofs.exchange.hear_all.Goals as goal

pub loop-preserved : goal.loop-preserved
loop-preserved g c =
    let x = g.M.Machine.view c.args.machine in
    let y = g.M.Machine.view c.loop.machine in
    let led = c.loop.invariant in
    elim c.match-item.branch [
      | in-Bytes+in_ok-receive-in-Bytes w ↦
          let heard = w.in_ok-receive-in-Bytes.ensures in
          rw w.machine-is (received_more g.M.Machine.goes x y (g.M.Machine.view w.receive.new.machine) led heard.0 heard.1 heard.3)
      | in-Stop w ↦ rw w.machine-is led
    ]

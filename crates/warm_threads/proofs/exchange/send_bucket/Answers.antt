use Rattle.std.proofs.Common.{refl}
use Rattle.warm_threads.proofs.ExchangeLemmas.{sending_more, sending_last}
use Rattle.warm_threads.proofs.exchange.send_bucket.Goals as goal

pub returns-in_default : goal.returns-in_default
returns-in_default g c =
    sending_last g.M.Machine.goes c.args.bucket (g.M.Machine.view c.args.machine.now) (g.M.Machine.view c.loop.machine) (g.M.Machine.view c.asked_message.new.machine) c.loop.after c.in_ok-message.message c.loop.invariant c.in_ok-message.ensures
    (c.in_default.ensures.rest refl)

pub loop-preserved-in-Some-next_after : goal.loop-preserved-in-Some-next_after
loop-preserved-in-Some-next_after g c =
    sending_more g.M.Machine.goes c.args.bucket (g.M.Machine.view c.args.machine.now) (g.M.Machine.view c.loop.machine) (g.M.Machine.view c.asked_message.new.machine) c.loop.after c.in_ok-message.message c.in-Some-next_after.last c.loop.invariant c.in_ok-message.ensures
    c.in-Some-next_after.ensures.full c.in-Some-next_after.ensures.last

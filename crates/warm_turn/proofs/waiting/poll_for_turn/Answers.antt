use Rattle.std.proofs.Common.{rules, ◌≡◌}
use Rattle.warm_turn.proofs.SeatLemmas.{looks, has_machine}
use Rattle.warm_turn.proofs.waiting.poll_for_turn.Goals as goal

pub load-served-requires : goal.load-served-requires
load-served-requires g c = (search rules, search rules, looks _ _ _ _ _ _ _ (c.loop.invariant.2) c.requires.waits.0 c.requires.waits.1 c.requires.waits.2)

pub returns-then-served-ticket-clause-serves : goal.returns-then-served-ticket-clause-serves
returns-then-served-ticket-clause-serves g c = let is : c.load-served.result ≡ c.args.ticket = search rules in
    has_machine g.M.Machine.view g.M.Machine.goes (g.M.Machine.view c.args.shared.now.key.value) c.loop.seat.me c.args.seat.now.me c.load-served.new.seat.me c.load-served.result c.args.ticket c.loop.invariant.2 c.requires.waits.0 c.requires.waits.3 is c.load-served.ensures.2

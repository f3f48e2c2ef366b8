use Rattle.std.proofs.Common.{rules, ◌≡◌}
use Rattle.warm_turn.proofs.SeatLemmas.{forgets, glances, has_turn, seizes}
use Rattle.warm_turn.proofs.waiting.try_turn.Goals as goal

pub load-served-requires : goal.load-served-requires
load-served-requires g c = (search rules, search rules, glances _ _ _ _ _ _ c.requires.idle.1)

pub load-requires : goal.load-requires
load-requires g c = (search rules, search rules, forgets _ _ _ _ _ _ _ _ c.requires.idle.1 c.load-served.ensures.2)

pub compare_exchange-found-requires : goal.compare_exchange-found-requires
compare_exchange-found-requires g c = (search rules, search rules, seizes _ _ _ _ _ _ _ _ c.requires.idle.0 c.requires.idle.1 c.load-served.ensures.2 (search rules))

pub returns-clause-turn : goal.returns-clause-turn
returns-clause-turn g c = let is : c.compare_exchange-found.result ≡ c.load-served.result = search rules in
    λ _. has_turn g.M.Machine.view g.M.Machine.goes (g.M.Machine.view c.args.shared.now.key.value) c.args.seat.now.me c.load-served.new.seat.me c.compare_exchange-found.new.seat.me c.load-served.result c.compare_exchange-found.result c.requires.idle.1 c.load-served.ensures.2 c.compare_exchange-found.ensures.2 is

use Rattle.std.proofs.Common.{rules}
use Rattle.warm_turn.proofs.SeatLemmas.{tries}
use Rattle.warm_turn.proofs.waiting.poll_for_ticket.Goals as goal

pub compare_exchange-found-requires : goal.compare_exchange-found-requires
compare_exchange-found-requires g c = (search rules, search rules, tries _ _ _ _ _ _ _ _ (c.loop.invariant.2) c.requires.idle c.tried_for-expected.ensures)

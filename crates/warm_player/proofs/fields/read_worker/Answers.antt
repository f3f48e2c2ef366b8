use Rattle.warm_player.proofs.FieldLemmas.{one_digit_read}
use Rattle.warm_player.proofs.fields.read_worker.Goals as goal

pub returns-in-Some : goal.returns-in-Some
returns-in-Some c = one_digit_read c.args.fields.now c.in-Some.rest.now c.in-Some.worker c.in-Some.ensures.parts c.in-Some.ensures.bound

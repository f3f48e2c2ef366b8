use Rattle.warm_visits.specs.VisitReads.{asks_for}
use Rattle.warm_visits.proofs.VisitReadsSending.{sends_of}
use Rattle.warm_visits.proofs.sending.Sending.of.Goals as goal

pub returns-clause-sends : goal.returns-clause-sends
returns-clause-sends c id count =
    sends_of id count c.args.request c.next-bucket.result c.iter-later.result c.next-bucket.new.self c.new.result.items (asks_for id c.args.want) c.iter-later.ensures c.next-bucket.ensures.steps c.new.ensures.items

use Rattle.warm_visits.proofs.VisitPlans.{entries_begun}
use Rattle.warm_visits.proofs.visit.Visit.entries.Goals as goal

pub returns : goal.returns
returns c =
    entries_begun c.args.id c.args.count c.args.horizon c.first-shard.result c.args.entries.now c.in_ok-parts_of.field-0 c.in_ok-parts_of.ensures c.first-shard.ensures

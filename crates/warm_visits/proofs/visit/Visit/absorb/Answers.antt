use Rattle.warm_visits.proofs.VisitPlans.{absorb_begun}
use Rattle.warm_visits.proofs.visit.Visit.absorb.Goals as goal

pub returns : goal.returns
returns c =
    absorb_begun c.args.id c.args.count c.first-shard.result c.args.batch.now c.in_ok-parts_of.field-0 c.in_ok-parts_of.ensures c.first-shard.ensures

use Rattle.std.proofs.Common.{◌∙◌, arith}
use Rattle.warm_shards.proofs.AnswerLemmas.{portion_found}
use Rattle.warm_shards.proofs.shards.Shards.send_since.Goals as goal

pub returns-clause-sent : goal.returns-clause-sent
returns-clause-sent g c =
    (portion_found c.args.bucket c.args.since c.from.result c.len.result c.args.after c.send_since.result c.self.view_is c.self.invariant (omega (arith, c.self.inside.nodes.ok.0)) (c.from.ensures ∙ c.get.ensures.value) c.index.ensures c.send_since.ensures.sent c.send_since.ensures.more).sent

pub returns-clause-more : goal.returns-clause-more
returns-clause-more g c =
    (portion_found c.args.bucket c.args.since c.from.result c.len.result c.args.after c.send_since.result c.self.view_is c.self.invariant (omega (arith, c.self.inside.nodes.ok.0)) (c.from.ensures ∙ c.get.ensures.value) c.index.ensures c.send_since.ensures.sent c.send_since.ensures.more).more

pub returns-clause-held : goal.returns-clause-held
returns-clause-held g c =
    (portion_found c.args.bucket c.args.since c.from.result c.len.result c.args.after c.send_since.result c.self.view_is c.self.invariant (omega (arith, c.self.inside.nodes.ok.0)) (c.from.ensures ∙ c.get.ensures.value) c.index.ensures c.send_since.ensures.sent c.send_since.ensures.more).held

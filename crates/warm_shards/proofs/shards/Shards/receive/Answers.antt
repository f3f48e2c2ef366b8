use Rattle.std.proofs.Common.{List, subst}
use Rattle.std.specs.Prelude.{IfOk}
use Rattle.warm_gossip.specs.State.{NodeState}
use Rattle.warm_gossip.specs.declared.call.Call.TheVariants.{Receive}
use Rattle.warm_gossip.specs.declared.call.Reply.TheVariants.{Answers}
use Rattle.warm_shards.specs.Clauses.{Together}
use Rattle.warm_shards.proofs.shards.Shards.receive.Goals as goal

pub returns-clause-received : goal.returns-clause-received
returns-clause-received g c =
    subst (λ (xs : List NodeState). IfOk c.received.result (λ answers. Together xs (Receive c.args.message) (Answers answers) c.received.new.nodes.items)) c.self.view_is c.received.ensures.received

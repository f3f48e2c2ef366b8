use Rattle.std.proofs.Common.{List, ◌%◌, subst, ◌∙◌, arith}
use Rattle.warm_gossip.specs.State.{NodeState}
use Rattle.warm_gossip.specs.declared.call.Call.TheVariants.{Send}
use Rattle.warm_gossip.specs.declared.call.Reply.TheVariants.{Sent}
use Rattle.warm_shards.specs.Clauses.{TogetherAnswered}
use Rattle.warm_shards.proofs.AnswerLemmas.{bucket_found, sends}
use Rattle.warm_shards.proofs.Calls.{read_at}
use Rattle.warm_shards.proofs.shards.Shards.send.Goals as goal

pub returns : goal.returns
returns g c =
    let ns = c.self.inside.nodes.items in
    let j = c.from.result % c.len.result in
    let found = bucket_found ns c.args.bucket c.from.result c.len.result c.self.invariant (omega (arith, c.self.inside.nodes.ok.0)) (c.from.ensures ∙ c.get.ensures.value) in
    subst (λ (xs : List NodeState). TogetherAnswered xs (Send c.args.bucket c.args.after) (λ x. Sent x) c.send.result xs) c.self.view_is
    (sends ns j c.args.bucket c.args.after c.index.result.now c.send.result c.self.invariant found.0 found.1 (read_at ns j c.index.result.now c.index.result.now found.0 c.index.ensures) c.send.ensures)

use Rattle.std.proofs.Common.{◌≡◌, ◌<◌, List, length, subst, arith}
use Rattle.std.specs.Prelude.{OnOk}
use Rattle.warm_gossip.specs.declared.call.Call.TheVariants.{Read}
use Rattle.warm_gossip.specs.declared.call.Reply.TheVariants.{Bytes}
use Rattle.warm_gossip.specs.Clauses.{Goes}
use Rattle.warm_gossip.specs.State.{NodeState}
use Rattle.warm_shards.specs.Shards.{shard_at}
use Rattle.warm_shards.proofs.Calls.{read_at}
use Rattle.warm_shards.proofs.shards.Shards.read_into.Goals as goal

pub returns-clause-read : goal.returns-clause-read
returns-clause-read g c =
    let ns = c.self.inside.nodes.items in
    let i = c.args.slot.shard in
    let n = c.index.result.now in
    let asked = Read c.args.slot.slot c.args.at (length c.args.into.now) in
    let given = Bytes c.read_into.new.into in
    let lt : i < length ns = omega (arith, c.self.inside.nodes.ok.0, c.len.ensures, c.if-slot-len.false) in
    let at : n ≡ shard_at ns i = read_at ns i n n lt c.index.ensures in
    subst (λ (xs : List NodeState). OnOk c.read_into.result (Goes (shard_at xs i) asked given (shard_at xs i))) c.self.view_is
    (subst (λ (x : NodeState). OnOk c.read_into.result (Goes x asked given x)) at c.read_into.ensures.read)

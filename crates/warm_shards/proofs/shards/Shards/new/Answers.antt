use Rattle.std.proofs.Common.{rules}
use Rattle.warm_shards.specs.Shards.{AreOpened}
use Rattle.warm_shards.proofs.Opening.{opened_shards, opened_whole}
use Rattle.warm_shards.proofs.shards.Shards.new.Goals as goal

pub invariant_of-result : goal.invariant_of-result
invariant_of-result g c =
    let opened : AreOpened c.args.id c.args.nodes.items = search rules in
    opened_shards c.args.id c.args.nodes.items opened

pub returns-clause-empty : goal.returns-clause-empty
returns-clause-empty g c =
    let opened : AreOpened c.args.id c.args.nodes.items = search rules in
    opened_whole c.args.id c.args.nodes.items opened

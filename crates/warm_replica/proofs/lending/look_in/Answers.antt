use Rattle.std.proofs.Common.{subst}
use Rattle.warm_pool.specs.PageBytes.{IsLent}
use Rattle.warm_pool.specs.State.{PoolState}
use Rattle.warm_pool.specs.View.{view_of}
use Rattle.warm_replica.proofs.LentPageLemmas.{lent_shown}
use Rattle.warm_replica.proofs.lending.look_in.Goals as goal

pub returns-clause-page : goal.returns-clause-page
returns-clause-page g c =
    let slot = c.args.slot in
    let lent = subst (λ (s : PoolState). IsLent (view_of s) slot c.bytes-lent.result.now) c.pool.ensures c.bytes-lent.ensures in
    lent_shown c.args.node.now slot c.tag_of-bytes.result.numbers c.bytes-lent.result.now c.requires.holds lent c.tag_of-bytes.ensures

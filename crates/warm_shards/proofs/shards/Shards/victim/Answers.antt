use Rattle.std.proofs.Common.{◌≡◌, ◌<◌, List, length, sym, subst}
use Rattle.warm_history.specs.Histories.{references_of}
use Rattle.warm_rank.specs.Ranking.{IsVictim}
use Rattle.warm_pool.specs.View.{unfixed_pages, view_of}
use Rattle.warm_gossip.specs.State.{NodeState}
use Rattle.warm_shards.specs.Shards.{shard_at, whole}
use Rattle.warm_shards.proofs.Calls.{read_at}
use Rattle.warm_shards.proofs.Victims.{victim_whole}
use Rattle.warm_shards.proofs.shards.Shards.victim.Goals as goal

pub returns-clause-victim : goal.returns-clause-victim
returns-clause-victim g c =
    let ns = c.self.inside.nodes.items in
    let n = c.index_mut.result.now in
    let lt : c.args.shard < length ns = subst (λ (xs : List NodeState). c.args.shard < length xs) (sym c.self.view_is) c.requires.there in
    let at : n ≡ shard_at ns c.args.shard = read_at ns c.args.shard n n lt c.index_mut.ensures.value in
    subst (λ (xs : List NodeState). IsVictim (references_of (whole xs)) (unfixed_pages (view_of (shard_at xs c.args.shard).pool)) c.victim.result) c.self.view_is
    (victim_whole ns c.args.shard c.victim.result c.self.invariant lt
    (subst (λ (x : NodeState). IsVictim (references_of x.history) (unfixed_pages (view_of x.pool)) c.victim.result) at c.victim.ensures.step.0))

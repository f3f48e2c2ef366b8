use Rattle.std.proofs.Common.{ℕ, List, ap, sym, subst, ◌∙◌}
use Rattle.warm_gossip.specs.State.{NodeState}
use Rattle.warm_pool.specs.PageBytes.{IsLent}
use Rattle.warm_pool.specs.Pinning.{CanPinAgain}
use Rattle.warm_pool.specs.State.{IsPool, PoolState}
use Rattle.warm_pool.specs.View.{view_of}
use Rattle.warm_shard_machine.specs.ShardSteps.{Looks}
use Rattle.warm_shard_machine.proofs.LendingLemmas.{looks_unpinned}
use Rattle.warm_shard_machine.proofs.lending.look_in.Goals as goal

pub resident_bytes-lent-requires : goal.resident_bytes-lent-requires
resident_bytes-lent-requires g c =
    let is = c.pool-held.ensures ∙ ap (λ (n : NodeState). n.pool) c.in-Some.ensures.same in
    record { can = subst (λ (s : PoolState). CanPinAgain s c.args.page c.in-Some.slot) (sym is) c.in-Some.ensures.found }

pub returns-in-Some-clause-looked : goal.returns-in-Some-clause-looked
returns-in-Some-clause-looked g c =
    let old = c.args.node.now in
    let slot = c.in-Some.slot in
    let is = c.pool-held.ensures ∙ ap (λ (n : NodeState). n.pool) c.in-Some.ensures.same in
    let pool = subst IsPool is c.prove_is_pool.ensures in
    let lent = subst (λ (s : PoolState). IsLent (view_of s) slot c.resident_bytes-lent.result.now) is c.resident_bytes-lent.ensures in
    let shown = subst (λ (bytes : List ℕ). IsLent (view_of old.pool) slot bytes) (sym c.tag_of-bytes.ensures) lent in
    subst (λ (n : NodeState). Looks old c.args.page slot c.tag_of-bytes.result.numbers n) (sym c.in-Some.ensures.same)
    (looks_unpinned old c.args.page slot c.tag_of-bytes.result.numbers pool c.in-Some.ensures.found shown)

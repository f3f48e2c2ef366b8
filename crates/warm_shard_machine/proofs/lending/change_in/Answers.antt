use Rattle.std.proofs.Common.{ℕ, List, ap, sym, subst, ◌∙◌}
use Rattle.warm_gossip.specs.Lending.{relent_node}
use Rattle.warm_gossip.specs.State.{NodeState}
use Rattle.warm_pool.specs.PageBytes.{IsLent}
use Rattle.warm_pool.specs.Pinning.{CanPinAgain}
use Rattle.warm_pool.specs.State.{IsPool}
use Rattle.warm_pool.specs.View.{view_of}
use Rattle.warm_shard_machine.specs.ShardSteps.{Changes}
use Rattle.warm_shard_machine.proofs.LendingLemmas.{changes_unpinned}
use Rattle.warm_shard_machine.proofs.lending.change_in.Goals as goal

pub resident_bytes_mut-lent-requires : goal.resident_bytes_mut-lent-requires
resident_bytes_mut-lent-requires g c =
    record { can = subst (λ (n : NodeState). CanPinAgain n.pool c.args.page c.in-Some.slot) (sym c.in-Some.ensures.same) c.in-Some.ensures.found }

pub returns-in-Some-clause-changed : goal.returns-in-Some-clause-changed
returns-in-Some-clause-changed g c =
    let old = c.args.node.now in
    let page = c.args.page in
    let slot = c.in-Some.slot in
    let w = c.f-output.new.arg2 in
    let pool = subst IsPool (c.pool.ensures ∙ ap (λ (n : NodeState). n.pool) c.in-Some.ensures.same) c.prove_is_pool.ensures in
    let lent = subst (λ (n : NodeState). IsLent (view_of n.pool) slot c.resident_bytes_mut-lent.result.now) c.in-Some.ensures.same c.resident_bytes_mut-lent.ensures.lent in
    let changed = changes_unpinned old page slot c.resident_bytes_mut-lent.result.now w pool c.in-Some.ensures.found lent c.f-output.auto.arg2 in
    let first = subst (λ (b : List ℕ). Changes old page slot b w (relent_node old slot.index w)) (sym c.tag_of-before.ensures) changed in
    let both = subst (λ (a : List ℕ). Changes old page slot c.tag_of-before.result.numbers a (relent_node old slot.index w)) (sym c.tag_of-after.ensures) first in
    subst (λ (n : NodeState). Changes old page slot c.tag_of-before.result.numbers c.tag_of-after.result.numbers (relent_node n slot.index w)) (sym c.in-Some.ensures.same) both

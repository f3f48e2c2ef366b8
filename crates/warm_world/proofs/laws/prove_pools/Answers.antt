use Rattle.std.proofs.Common.{◌≡◌, inl, inr, map, sym, ◌∙◌, ap, subst, arith, get_or}
use Rattle.std.proofs.lemmas.Bool.{cases_lt}
use Rattle.std.proofs.lemmas.List.{get_or-map}
use Rattle.warm_pool.specs.State.{IsPool}
use Rattle.warm_gossip.specs.State.{NodeState}
use Rattle.warm_world.proofs.laws.prove_pools.Goals as goal

pub loop-replica-preserved : goal.loop-replica-preserved
loop-replica-preserved g c = λ k other low. elim (cases_lt k c.loop-replica.replica-index) [
  | inl before ↦ c.loop-replica.invariant k other before
  | inr past ↦
      let same : k ≡ c.loop-replica.replica-index = omega (arith, low, past) in
      let here : get_or (map (λ r. r.node) c.args.replicas.now) c.loop-replica.replica-index other ≡ c.replica-item.result.node =
      get_or-map (λ r. r.node) c.args.replicas.now c.loop-replica.replica-index c.replica-item.result other c.loop-replica-test.true ∙ ap (λ r. r.node) (sym c.replica-item.is) in
      subst (λ i. IsPool (get_or (map (λ r. r.node) c.args.replicas.now) i other).pool) (sym same)
      (subst (λ (n : NodeState). IsPool n.pool) (sym here) (subst IsPool c.pool.ensures c.prove_is_pool.ensures))
]

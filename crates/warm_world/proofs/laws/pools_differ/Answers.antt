use Rattle.std.proofs.Common.{refl, map, subst}
use Rattle.warm_world.specs.WarmUps.{ArePools}
use Rattle.warm_world.proofs.WarmUpLemmas.{pools_differ}
use Rattle.warm_world.proofs.laws.pools_differ.Goals as goal

pub returns : goal.returns
returns g c = λ m. pools_differ _ _ (λ r. refl) _ _ m (subst (λ rs. ArePools (map (λ r. r.node) rs)) c.deref.ensures.value c.prove_pools.ensures)

use Rattle.std.proofs.Common.{◌≡◌, ◌∙◌, false, true, refl, rules, sym, to_z, of_z, w32}
use Rattle.warm_gossip.specs.declared.fault.NodeFault.TheVariants.{Memory}
use Rattle.warm_c_base.specs.declared.status.Refusal.TheVariants.{BadReplica, BadShards, Node}
use Rattle.warm_c.proofs.HandleLemmas.{visits_refused}
use Rattle.warm_c.proofs.visit_exports.visit_open.Goals as goal

pub returns-in_default-new : goal.returns-in_default-new
returns-in_default-new c =
    visits_refused c.args.replica c.args.shards c.args.handle.now.held.visit c.take.new.self.held.visit (to_z w32 (of_z w32 c.status_of-in_default-new.result)) BadReplica (search rules) (search rules) (search rules)
    (λ is. let no : false ≡ true = c.in_default-new.ensures.taken.1 is in absurd (cc))

pub returns-then-not-is_shard_count : goal.returns-then-not-is_shard_count
returns-then-not-is_shard_count c =
    let not : c.is_shard_count.result ≡ false = search rules in
    visits_refused c.args.replica c.args.shards c.args.handle.now.held.visit c.take.new.self.held.visit (to_z w32 (of_z w32 c.status_of-then-not-is_shard_count.result)) BadShards (search rules) (search rules) (search rules)
    (c.in-Ok.ensures.taken.0 refl, λ is. let no : false ≡ true = sym not ∙ c.is_shard_count.ensures.1 is in absurd (cc))

pub returns : goal.returns
returns c =
    let is : c.is_shard_count.result ≡ true = search rules in
    visits_refused c.args.replica c.args.shards c.args.handle.now.held.visit c.take.new.self.held.visit (to_z w32 (of_z w32 c.status_of-in-Err.result)) (Node Memory) (search rules) (search rules) (search rules)
    (c.in-Ok.ensures.taken.0 refl, c.is_shard_count.ensures.0 is)

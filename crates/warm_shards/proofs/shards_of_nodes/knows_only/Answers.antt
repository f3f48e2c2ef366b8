use Rattle.std.proofs.Common.{◌≡◌, ◌++◌, sym, ap, subst, ◌∙◌}
use Rattle.std.specs.List.{AllByRecursion}
use Rattle.warm_visits.specs.ShardNumbers.{shard_of}
use Rattle.warm_shards.proofs.Residents.{one_between}
use Rattle.warm_shards.proofs.shards_of_nodes.knows_only.Goals as goal

pub returns-then-shard_of-shard : goal.returns-then-shard_of-shard
returns-then-shard_of-shard c =
    let count = c.args.count in
    let shard = c.args.shard in
    let so_far = c.loop-entry.yielded in
    let entry = c.in-Some.entry in
    let all = ap (λ es. so_far ++ es) (sym c.in-Some.ensures.steps) ∙ c.loop-entry.invariant.rest in
    (λ no. absurd (cc), λ own. absurd (c.if-shard_of-shard.true (c.shard_of.ensures.value ∙ one_between (λ e. shard_of count e.page ≡ shard) so_far entry _ (subst (AllByRecursion (λ e. shard_of count e.page ≡ shard)) (sym all) own))))

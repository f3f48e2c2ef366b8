use Rattle.std.proofs.Common.{◌≡◌, take}
use Rattle.std.specs.List.{AllByRecursion}
use Rattle.warm_visits.specs.ShardNumbers.{shard_of}
use Rattle.warm_visits.proofs.batch_parts.are_of.Given as goal

-- the items so far are of the shard
abbrev pub invariant-loop-item : goal.invariant-loop-item
invariant-loop-item g l =
    AllByRecursion (λ item. shard_of l.count (g.T.NamesPage.named item) ≡ l.shard) (take l.item-index l.items)

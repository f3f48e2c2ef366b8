-- The errands of a plan that are left from one shard on.
use Rattle.std.specs.Prelude.{ℕ, ◌-◌, List, map}
use Rattle.std.specs.List.{flat_map, range_with_len}
use Rattle.warm_history.specs.ReferenceSets.{ReferenceSet}
use Rattle.warm_visits.specs.Given.{at_horizon}
use Rattle.warm_visits.specs.Visits.{Errand, at_shard, give_part, giving, Ask}

-- the numbers of the shards from this one on
abbrev pub later_shards : ℕ → ℕ → List ℕ
later_shards first count = range_with_len first (count - first)

-- the errands that raise the shards from this one on
abbrev pub raise_from : ℕ → ℕ → ℕ → List Errand
raise_from count time first =
    map (λ i. at_shard i (giving (at_horizon time))) (later_shards first count)

-- the errands that give the shards from this one on their parts
abbrev pub give_from : ℕ → (ℕ → ReferenceSet) → ℕ → List Errand
give_from count part first = flat_map (λ i. give_part i (part i)) (later_shards first count)

-- the same errand at each shard from this one on
abbrev pub from_shard : ℕ → ℕ → Ask → List Errand
from_shard first count ask = map (λ i. at_shard i ask) (range_with_len first (count - first))

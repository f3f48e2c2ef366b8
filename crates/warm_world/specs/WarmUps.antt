-- Warming up a replica of a world, and its result.
use Rattle.std.specs.Prelude.{ℕ, ◌<◌, List, length, replicate, slice_index_or}
use Rattle.warm_stamps.specs.declared.PageId.{PageId}
use Rattle.warm_pool.specs.State.{IsPool}
use Rattle.warm_pool.specs.View.{IsResident, IsUnfixed}
use Rattle.warm_gossip.specs.State.{NodeState}
use Rattle.warm_gossip.specs.WarmUps.{IsHot, PagesDiffer}
use Rattle.warm_world.specs.declared.event.Event.{Event}
use Rattle.warm_world.specs.declared.event.Event.TheVariants.{WarmStep}
use Rattle.warm_world.specs.States.{ModelState, pool_of, reach_of}
use Rattle.warm_world.specs.Views.{WorldView}
use Rattle.warm_world.specs.WorldStands.{WorldStands}
use Rattle.warm_world.specs.Rounds.{NoneRefused}

-- the warm-up of a replica: as many steps as its pool has frames
abbrev pub warm_up : ModelState → ℕ → List Event
warm_up m i = replicate (length (pool_of m i).frames) (WarmStep i)

-- the pool of each of the nodes satisfies the invariant of pools
abbrev pub ArePools : List NodeState → Type 0
ArePools nodes = (k : ℕ) (other : NodeState) → k < length nodes
    → IsPool (slice_index_or nodes k other).pool

-- in no replica's pool is a page in two frames
abbrev pub PoolsDiffer : ModelState → Type 0
PoolsDiffer m = (i : ℕ) → PagesDiffer (pool_of m i)

-- in each state that the world stands for, no page is in two frames of one replica's pool
abbrev pub ShowsPoolsDiffer : WorldView → Type 0
ShowsPoolsDiffer w = (m : ModelState) → WorldStands w m → PoolsDiffer m

-- If no page of the replica is pinned, then after a warm-up without a refusal every page of the
-- warm-up list, cut to the frames of the pool, that a device has is resident.
abbrev pub WarmUpLoads : Type 0
WarmUpLoads = (i : ℕ) (old new : ModelState) → PoolsDiffer old → IsUnfixed (pool_of old i)
    → NoneRefused old (warm_up old i) new
    → (p : PageId) → IsHot (reach_of old i) (pool_of old i) p → IsResident (pool_of new i) p

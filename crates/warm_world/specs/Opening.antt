-- Making a world, and its end.
use Rattle.std.specs.Prelude.{◌≡◌, ◌≢◌, ℕ, ◌<◌, ◌≤◌, ◌+◌, List, [], length, set, slice_index_or}
use Rattle.warm_devices.specs.Device.{DeviceState}
use Rattle.warm_pool.specs.declared.TheConstants.{MAX_DEVICES}
use Rattle.warm_pool.specs.declared.fault.PoolFault.TheVariants.{Fault}
use Rattle.warm_pool.specs.DeviceCalls.{AreOfSize}
use Rattle.warm_pool.specs.View.{PoolView}
use Rattle.warm_gossip.specs.declared.fault.NodeFault.{NodeFault}
use Rattle.warm_gossip.specs.declared.fault.NodeFault.TheVariants.{Pool}
use Rattle.warm_gossip.specs.Step.{IsFailed}
use Rattle.warm_world.specs.declared.event.BadWorld.{BadWorld}
use Rattle.warm_world.specs.declared.event.BadWorld.TheVariants.{Memory, SizeDiffers, DevicesDiffer}
use Rattle.warm_world.specs.declared.world.World.{World}
use Rattle.warm_world.specs.Views.{AreSameFrom, IsSettledBefore, ReplicaView, WorldView, world_view}
use Rattle.warm_world.specs.Sizes.{Sizes}

-- the devices of the replica at an index
abbrev pub devices_at : List (List DeviceState) → ℕ → List DeviceState
devices_at devices k = slice_index_or devices k []

-- each device of each replica has pages of this size
abbrev pub AreSized : ℕ → List (List DeviceState) → Type 0
AreSized size devices = (k : ℕ) → k < length devices
    → AreOfSize size (length (devices_at devices k)) (devices_at devices k)

-- no replica has more devices than a page can name
abbrev pub AreFew : List (List DeviceState) → Type 0
AreFew devices = (k : ℕ) → k < length devices → length (devices_at devices k) ≤ MAX_DEVICES

-- valid devices for a world of these sizes: a list for each replica, all with pages of its size
abbrev pub AreFitting : Sizes → List (List DeviceState) → Type 0
AreFitting s devices = (length devices ≡ s.replicas) × AreSized s.page_size devices

-- why a world is not made: an allocation failure comes last
abbrev pub NewWorldRefused : Sizes → List (List DeviceState) → BadWorld → Type 0
NewWorldRefused s devices DevicesDiffer = length devices ≢ s.replicas
NewWorldRefused s devices SizeDiffers = (length devices ≡ s.replicas)
    × (AreSized s.page_size devices → ⊥)
NewWorldRefused s devices Memory = AreFitting s devices

-- the replica, with this pool
abbrev pub with_pool : ReplicaView → PoolView → ReplicaView
with_pool r pool = record r { node = record r.node { pool = pool } }

-- a write or a flush, which may fail, has failed: of one replica's pool a count of failures has
-- increased, and nothing else has changed
pub record FailsOf (old : WorldView) (new : WorldView) : Type 0 where
  pub replica : ℕ
  pub there : replica < length old.replicas
  pub pool : PoolView
  pub failed : (other : ReplicaView)
      → IsFailed (slice_index_or old.replicas replica other).node.pool pool
  pub becomes : (other : ReplicaView)
      → new ≡ record old {
        replicas = set old.replicas replica
            (with_pool (slice_index_or old.replicas replica other) pool);
      }

-- the end of a world is refused because a write or a flush failed
abbrev pub FinishFails : WorldView → NodeFault → WorldView → Type 0
FinishFails old why new = (why ≡ Pool Fault) × FailsOf old new

-- a write or a flush failed: of the pool of the replica at this index a count of failures has
-- increased, and nothing else has changed
abbrev pub FailsAtIndex : ℕ → WorldView → WorldView → Type 0
FailsAtIndex k old new = (fails : FailsOf old new) × (fails.replica ≡ k)

-- The pools are written back in the order of replicas: those before the one that fails are settled,
-- and those after it are unchanged.
pub record StopsInOrder {D : Type 0} (old new : World D) : Type 0 where
  pub fails : FailsOf (world_view old) (world_view new)
  pub before : IsSettledBefore fails.replica new
  pub after : AreSameFrom (fails.replica + 1) old new

-- What contracts see of a world: plain data.
use Rattle.std.specs.Prelude.{◌≡◌, ◌≢◌, ℕ, ◌<◌, ◌≤◌, List, length, map, slice_index_or}
use Rattle.warm_pool.specs.State.{IsSettled}
use Rattle.std.specs.Global.{Vec}
use Rattle.warm_devices.specs.Device.{DeviceState}
use Rattle.warm_refbuffer.specs.Buffered.{Buffered}
use Rattle.warm_gossip.specs.State.{NodeState, NodeView, node_view}
use Rattle.warm_world.specs.declared.replica.WorldReplica.{WorldReplica}
use Rattle.warm_world.specs.declared.world.World.{World}

-- a replica: its node, and its workers' buffers
pub record ReplicaView : Type 0 where
  pub node : NodeView
  pub buffers : List Buffered

-- the replicas, and the bytes of each stored message
pub record WorldView : Type 0 where
  pub replicas : List ReplicaView
  pub messages : List (List ℕ)

-- How it follows from a world.

-- what contracts see of a replica
abbrev pub replica_view : {D : Type 0} → WorldReplica D → ReplicaView
replica_view r = record { node = node_view r.node; buffers = r.buffers.items }

-- what contracts see of a world
abbrev pub world_view : {D : Type 0} → World D → WorldView
world_view w = record {
  replicas = map replica_view w.replicas.items;
  messages = map (λ f. f.items) w.messages.items;
}

-- the states of the devices of each list
abbrev pub listed : {D : Type 0} → (D → DeviceState) → List (Vec D) → List (List DeviceState)
listed state lists = map (λ ds. map state ds.items) lists

-- of the nodes before an index no frame is dirty, and no device is unflushed
abbrev pub AreSettledBefore : ℕ → List NodeState → Type 0
AreSettledBefore k nodes = (j : ℕ) (other : NodeState) → j < k
    → IsSettled (slice_index_or nodes j other).pool

-- of the replicas of a world before an index no frame is dirty, and no device is unflushed
abbrev pub IsSettledBefore : {D : Type 0} → ℕ → World D → Type 0
IsSettledBefore k w = AreSettledBefore k (map (λ r. r.node) w.replicas.items)

-- of all nodes of the world no frame is dirty, and no device is unflushed
abbrev pub IsAtRest : {D : Type 0} → World D → Type 0
IsAtRest w = IsSettledBefore (length w.replicas.items) w

-- the node at an index
abbrev pub node_at : {D : Type 0} → World D → ℕ → NodeState → NodeState
node_at w j other = slice_index_or (map (λ r. r.node) w.replicas.items) j other

-- the nodes from this index on are unchanged
abbrev pub AreSameFrom : {D : Type 0} → ℕ → World D → World D → Type 0
AreSameFrom k old new = (j : ℕ) (other : NodeState) → k ≤ j
    → node_at new j other ≡ node_at old j other

-- all nodes but that at this index are unchanged
abbrev pub AreSameBut : {D : Type 0} → ℕ → World D → World D → Type 0
AreSameBut k old new = (j : ℕ) (other : NodeState) → j ≢ k
    → node_at new j other ≡ node_at old j other

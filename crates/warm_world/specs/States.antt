-- The model: every reference that reached each replica, kept permanently in plain lists, and what a
-- caller sees of each replica's pool.
use Rattle.std.specs.Prelude.{ℕ, List, [], ◌∷◌, ◌++◌, length, map, nat_le, replicate, if◌then◌else◌}
use Rattle.std.specs.Prelude.{slice_index_or, slice_set}
use Rattle.warm_stamps.specs.declared.Reference.{Reference}
use Rattle.warm_history.specs.ReferenceSets.{ReferenceSet, set_of_list, with_horizon, ◌∪◌}
use Rattle.warm_history.specs.Histories.{history}
use Rattle.warm_devices.specs.Device.{DeviceState}
use Rattle.warm_pool.specs.State.{fresh_pool}
use Rattle.warm_pool.specs.View.{PoolView, view_of}
use Rattle.warm_gossip.specs.State.{NodeView}
use Rattle.warm_world.specs.Lists.{index_of_number}
use Rattle.warm_world.specs.Sizes.{Sizes}

-- of one replica: the references that reached it since its restart, and its horizon; for each
-- worker the references pending in its buffer; and its pool
pub record ReplicaState : Type 0 where
  pub reach : ReferenceSet
  pub pending : List (List Reference)
  pub pool : PoolView

-- what a stored message stands for: its sender and the sender's horizon, with the references that
-- it brings, or the digests of the sender's buckets, or which buckets the sender requests
pub data MessageRecord : Type 0 where
  References : (sender : ℕ) (refs : ReferenceSet) → MessageRecord
  Digests : (sender horizon : ℕ) (digests : List (List ℕ)) → MessageRecord
  Request : (sender horizon request : ℕ) → MessageRecord

-- the state of all replicas; capacity is that of a buffer, in references
pub record ModelState : Type 0 where
  pub capacity : ℕ
  pub replicas : List ReplicaState
  pub records : List MessageRecord

-- a pool without frames, devices and pages
abbrev pub no_pool : PoolView
no_pool = record { page_size = 0; devices = []; frames = []; contents = []; failures = [] }

-- a replica without a pool, which nothing reached
abbrev pub no_replica : ReplicaState
no_replica = record { reach = set_of_list []; pending = []; pool = no_pool }

-- the replica at an index
abbrev pub replica : ModelState → ℕ → ReplicaState
replica m k = slice_index_or m.replicas k no_replica

-- the references that reached the replica of a number, directly or through others, since its
-- restart
abbrev pub reach_of : ModelState → ℕ → ReferenceSet
reach_of m i = (replica m (index_of_number i)).reach

-- the view of the pool of the replica of a number
abbrev pub pool_of : ModelState → ℕ → PoolView
pool_of m i = (replica m (index_of_number i)).pool

-- the node of the replica of a number: its history is that of the references that reached it
abbrev pub replica_node : ModelState → ℕ → NodeView
replica_node m i = record { id = i; history = history (reach_of m i); pool = pool_of m i }

-- the replica at an index is changed, and nothing else
abbrev pub set_replica : ModelState → ℕ → ReplicaState → ModelState
set_replica m k r = record m { replicas = slice_set m.replicas k r }

-- only the pool of the replica of a number is changed
abbrev pub set_pool : ModelState → ℕ → PoolView → ModelState
set_pool m i pool =
    set_replica m (index_of_number i) (record (replica m (index_of_number i)) { pool = pool })

-- the record at an index
abbrev pub record_at : ModelState → ℕ → MessageRecord
record_at m k = slice_index_or m.records k (References 0 (set_of_list []))

-- the records with these appended
abbrev pub add_records : ModelState → List MessageRecord → ModelState
add_records m rs = record m { records = m.records ++ rs }

-- the references pending in the buffer of the worker at an index
abbrev pub pending : ReplicaState → ℕ → List Reference
pending r k = slice_index_or r.pending k []

-- the replica after the buffer of the worker at index k was flushed: its references have reached
-- the replica
abbrev pub flushed : ℕ → ReplicaState → ReplicaState
flushed k r =
    record r { reach = r.reach ∪ set_of_list (pending r k); pending = slice_set r.pending k [] }

-- the replica after a reference was appended to the buffer of the worker at index k
abbrev pub put_last : ℕ → Reference → ReplicaState → ReplicaState
put_last k x r = record r { pending = slice_set r.pending k (pending r k ++ x ∷ []) }

-- the replica after a reference was appended to the buffer of the worker at index k; a full buffer
-- is flushed first
abbrev pub referred : ℕ → ℕ → Reference → ReplicaState → ReplicaState
referred capacity k x r =
    put_last k x (if nat_le capacity (length (pending r k)) then flushed k r else r)

-- the replica with its horizon raised to this time, unless it is later already
abbrev pub raised_replica : ℕ → ReplicaState → ReplicaState
raised_replica time r = record r { reach = with_horizon time r.reach }

-- the replica after a restart: no references, empty buffers, and this pool
abbrev pub restarted : PoolView → ReplicaState → ReplicaState
restarted pool r = record { reach = set_of_list []; pending = map (λ _. []) r.pending; pool = pool }

-- a replica that no reference has reached
abbrev pub fresh : ℕ → PoolView → ReplicaState
fresh workers pool = record { reach = set_of_list []; pending = replicate workers []; pool = pool }

-- a replica over these devices, before the first event
abbrev pub opened_over : Sizes → List DeviceState → ReplicaState
opened_over s devices = fresh s.workers (view_of (fresh_pool s.frames s.page_size devices))

-- a world with a replica over each list of devices, before the first event
abbrev pub opening : Sizes → List (List DeviceState) → ModelState
opening s devices =
    record { capacity = s.buffer; replicas = map (opened_over s) devices; records = [] }

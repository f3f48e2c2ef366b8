use Rattle.std.proofs.Common.{◌≡◌, ◌≤◌, ◌++◌, length, map, vec_capacity}
use Rattle.std.specs.Vec.Iter.{into_iter_items}
use Rattle.warm_world.specs.Lists.{Pairwise}
use Rattle.warm_world.specs.Views.{listed, replica_view}
use Rattle.warm_world.specs.States.{opened_over}
use Rattle.warm_world.specs.WorldStands.{ReplicaStands}
use Rattle.warm_world.proofs.world.replicas_over.Given as goal

-- a replica over each list so far, and capacity for one over each
abbrev pub invariant-loop-list : goal.invariant-loop-list
invariant-loop-list g l = record {
  rest : l.yielded ++ into_iter_items l.list-iterator ≡ l.fn.devices.items;
  stand : Pairwise (ReplicaStands l.fn.setup.buffer) (map replica_view l.replicas.items)
      (map (opened_over l.fn.setup) (listed g.D.PageDevice.state l.yielded));
  count : length l.replicas.items ≡ length l.yielded;
  capacity : length l.fn.devices.items ≤ vec_capacity l.replicas;
}

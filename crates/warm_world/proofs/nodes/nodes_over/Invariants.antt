use Rattle.std.proofs.Common.{◌≡◌, ◌≤◌, ◌++◌, length, vec_capacity}
use Rattle.std.specs.Vec.Iter.{into_iter_items}
use Rattle.warm_stamps.specs.declared.TheConstants.{MAX_REPLICAS}
use Rattle.warm_world.specs.Nodes.{nodes_over}
use Rattle.warm_world.specs.Views.{listed}
use Rattle.warm_world.proofs.nodes.nodes_over.Given as goal

-- a node over each list so far, and capacity for one over each
abbrev pub invariant-loop-list : goal.invariant-loop-list
invariant-loop-list g l = record {
  rest : l.yielded ++ into_iter_items l.list-iterator ≡ l.fn.devices.items;
  count : length l.nodes.items ≡ length l.yielded;
  made : l.nodes.items ≡ nodes_over l.fn.setup 1 (listed g.D.PageDevice.state l.yielded);
  many : length l.fn.devices.items ≤ MAX_REPLICAS;
  capacity : length l.fn.devices.items ≤ vec_capacity l.nodes;
}

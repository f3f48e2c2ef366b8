-- What is asked of the opening of a handle, and why it is refused.
use Rattle.std.specs.Prelude.{ℕ, List}
use Rattle.warm_stamps.specs.Replicas.{IsReplica}
use Rattle.warm_pool.specs.State.{fresh_pool}
use Rattle.warm_pool.specs.Opening.{NewPoolRefused}
use Rattle.warm_gossip.specs.declared.fault.NodeFault.TheVariants.{Memory}
use Rattle.warm_gossip.specs.State.{opened_node}
use Rattle.warm_c_base.specs.DeviceLists.{AreDevices, DescriptorsDiffer, DevicesRefused, fd_devices}
use Rattle.warm_c_base.specs.declared.status.Refusal.{Refusal}
use Rattle.warm_c_base.specs.declared.status.Refusal.TheVariants.{Node, NewPool, BadReplica}
use Rattle.warm_c_base.specs.declared.values.WarmDevice.{WarmDevice}
use Rattle.warm_c_calls.specs.declared.open_node.OpenNode.{OpenNode}

-- what is asked of `node_open`
pub record OpenRequest : Type 0 where
  pub replica : ℕ
  pub frames : ℕ
  pub page_size : ℕ
  pub devices : List WarmDevice

-- the request for a node of this replica: these frames of this page size, over these devices
abbrev pub open_request : ℕ → ℕ → ℕ → List WarmDevice → OpenRequest
open_request replica frames page_size devices =
    record { replica = replica; frames = frames; page_size = page_size; devices = devices }

-- a request that may be granted: the replica's number is one, and the devices may be opened
pub record MayOpen (a : OpenRequest) : Type 0 where
  pub replica : IsReplica a.replica
  pub devices : AreDevices a.page_size a.devices
  pub apart : DescriptorsDiffer a.devices

-- a node with an empty history, over a pool without a page; the devices are those of the request
abbrev pub opened_handle : OpenRequest → OpenNode
opened_handle a = record {
  node = opened_node a.replica (fresh_pool a.frames a.page_size (fd_devices a.page_size a.devices));
  devices = a.devices;
}

-- Why no node is made: the first that holds of `BadReplica`, why no devices are made, and why no
-- pool is. An allocation may fail at any point.
abbrev pub OpenRefused : OpenRequest → Refusal → Type 0
OpenRefused a (Node Memory) = Unit {0}
OpenRefused a BadReplica = IsReplica a.replica → ⊥
OpenRefused a (NewPool fault) = MayOpen a
    × NewPoolRefused a.frames a.page_size (fd_devices a.page_size a.devices) fault
OpenRefused a why = IsReplica a.replica × DevicesRefused a.page_size a.devices why

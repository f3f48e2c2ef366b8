-- Nodes of a setup, before the first event.
use Rattle.std.specs.Prelude.{ℕ, ◌+◌, List, [], ◌∷◌}
use Rattle.warm_devices.specs.Device.{DeviceState}
use Rattle.warm_pool.specs.State.{fresh_pool}
use Rattle.warm_gossip.specs.State.{NodeState, opened_node}
use Rattle.warm_world.specs.Opening.{AreFew, AreFitting}
use Rattle.warm_world.specs.Sizes.{Sizes}

-- the node of this number over these devices: no reference has reached it, and no page is resident
abbrev pub node_over : Sizes → ℕ → List DeviceState → NodeState
node_over s i devices = opened_node i (fresh_pool s.frames s.page_size devices)

-- a node over each list of devices, of which the first has this number
abbrev pub nodes_over : Sizes → ℕ → List (List DeviceState) → List NodeState
nodes_over s i [] = []
nodes_over s i (devices ∷ rest) = node_over s i devices ∷ nodes_over s (i + 1) rest

-- valid devices for nodes of these sizes: a list for each replica, with pages of the size, none
-- with more devices than a page can name
abbrev pub AreUsable : Sizes → List (List DeviceState) → Type 0
AreUsable s devices = AreFitting s devices × AreFew devices

use Rattle.std.proofs.Common.{ℕ, ◌<◌, length}
use Rattle.warm_pool.specs.DeviceCalls.{AreOfSize}
use Rattle.warm_world.specs.Opening.{devices_at}
use Rattle.warm_world.specs.Views.{listed}
use Rattle.warm_world.proofs.world.are_sized.Given as goal

-- the lists so far have devices of the size
abbrev pub invariant-loop-list : goal.invariant-loop-list
invariant-loop-list g l = (k : ℕ) → k < l.list-index
    → AreOfSize l.page_size (length (devices_at (listed g.D.PageDevice.state l.devices) k))
    (devices_at (listed g.D.PageDevice.state l.devices) k)

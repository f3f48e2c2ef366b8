use Rattle.std.proofs.Common.{◌≡◌, ◌<◌, ℕ, map}
use Rattle.warm_pool.specs.State.{nth_device}
use Rattle.warm_pool.proofs.device_list.all_sized.Given as goal

abbrev pub invariant-loop-device : goal.invariant-loop-device
invariant-loop-device g l =
    (k : ℕ) → k < l.device-index → (nth_device (map g.D.PageDevice.state l.devices) k).page_size ≡ l.page_size

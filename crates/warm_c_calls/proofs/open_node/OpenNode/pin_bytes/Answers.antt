use Rattle.std.proofs.Common.{refl}
use Rattle.warm_c_calls.proofs.open_node.OpenNode.pin_bytes.Goals as goal

pub returns : goal.returns
returns c =
    rw c.of.ensures (rw c.page.ensures at c.in_ok-given.ensures.step, rw c.page.ensures at c.in_ok-given.ensures.devices, refl)

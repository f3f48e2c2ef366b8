use Rattle.std.proofs.Common.{ap, ◌∙◌, true, false, List, ℕ}
use Rattle.warm_devices.specs.Calls.{DeviceCalls}
use Rattle.warm_devices.specs.Device.{DeviceState}
use Rattle.warm_devices.specs.Pieces.{equal_pieces}
use Rattle.warm_devices.proofs.StoredPageLemmas.{pieces-zero}
use Rattle.warm_devices.proofs.memory.MemDevice.new.Goals as goal

pub returns : goal.returns
returns c =
    let device : List (List ℕ) → DeviceCalls → DeviceState = λ contents calls. record { pages = c.args.pages; page_size = c.args.page_size; contents = contents; waiting = false; failures = 0; calls = calls; honest = true; unfailing = true } in
    ap (λ contents. device contents c.new.result.made)
    (ap (equal_pieces c.args.pages c.args.page_size) c.in_ok-bytes.ensures ∙ pieces-zero c.args.pages c.args.page_size)
    ∙ ap (device _) c.new.ensures

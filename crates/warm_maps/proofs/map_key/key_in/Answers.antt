use Rattle.std.proofs.Common.{◌+◌, ◌*◌}
use Rattle.warm_maps.proofs.map_key.key_in.Goals as goal

pub returns : goal.returns
returns c = λ i. c.first_key.ensures i + (c.from.ensures i * 18446744073709551616 + c.from-2.ensures i)

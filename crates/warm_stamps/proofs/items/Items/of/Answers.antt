use Rattle.std.proofs.Common.{refl}
use Rattle.warm_stamps.proofs.items.Items.of.Goals as goal

pub returns : goal.returns
returns g c = refl

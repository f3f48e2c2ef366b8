use Rattle.warm_world.proofs.WidthLemmas.{opening_fits}
use Rattle.warm_world.proofs.laws.opening_fits.Goals as goal

pub returns : goal.returns
returns c = opening_fits

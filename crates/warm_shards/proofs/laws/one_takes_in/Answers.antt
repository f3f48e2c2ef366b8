use Rattle.warm_shards.proofs.WholeParts.{one_takes_in}
use Rattle.warm_shards.proofs.laws.one_takes_in.Goals as goal

pub returns : goal.returns
returns c = one_takes_in

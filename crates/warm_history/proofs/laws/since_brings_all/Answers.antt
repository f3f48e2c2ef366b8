use Rattle.warm_history.proofs.SinceLaws.{since_brings_all}
use Rattle.warm_history.proofs.laws.since_brings_all.Goals as goal

pub returns : goal.returns
returns c = since_brings_all

use Rattle.warm_frames.proofs.StreamLemmas.{one_reading}
use Rattle.warm_frames.proofs.laws.one_reading.Goals as goal

pub returns : goal.returns
returns c = one_reading

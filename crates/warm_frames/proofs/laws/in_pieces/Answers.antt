use Rattle.warm_frames.proofs.StreamLemmas.{in_pieces}
use Rattle.warm_frames.proofs.laws.in_pieces.Goals as goal

pub returns : goal.returns
returns c = in_pieces

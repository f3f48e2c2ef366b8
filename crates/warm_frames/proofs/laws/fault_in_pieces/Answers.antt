use Rattle.warm_frames.proofs.StreamLemmas.{fault_in_pieces}
use Rattle.warm_frames.proofs.laws.fault_in_pieces.Goals as goal

pub returns : goal.returns
returns c = fault_in_pieces

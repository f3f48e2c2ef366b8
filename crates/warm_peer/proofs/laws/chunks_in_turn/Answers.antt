use Rattle.warm_peer.proofs.ChunkLemmas.{chunks_in_turn}
use Rattle.warm_peer.proofs.laws.chunks_in_turn.Goals as goal

pub returns : goal.returns
returns c = chunks_in_turn

use Rattle.std.proofs.Common.{subst}
use Rattle.warm_history.specs.Histories.{entries_of}
use Rattle.warm_frames.specs.Entries.{IsEntry}
use Rattle.warm_digest.specs.Exchange.{Fits}
use Rattle.warm_peer.proofs.FitLemmas.{in_other_order}
use Rattle.warm_peer.proofs.laws.peer_fits.Goals as goal

pub returns : goal.returns
returns c = subst Fits c.history.ensures (in_other_order IsEntry (entries_of c.history.result.now) c.unordered.result c.unordered.ensures c.prove_entries.ensures)

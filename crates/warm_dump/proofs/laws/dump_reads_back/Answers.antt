use Rattle.warm_dump.proofs.SavedLemmas.{dump_reads_back}
use Rattle.warm_dump.proofs.laws.dump_reads_back.Goals as goal

pub returns : goal.returns
returns c = dump_reads_back

use Rattle.warm_dump.proofs.LawLemmas.{dump_is_taken}
use Rattle.warm_dump.proofs.laws.dump_is_taken.Goals as goal

pub returns : goal.returns
returns c = dump_is_taken

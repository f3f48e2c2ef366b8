use Rattle.warm_dump.proofs.ChangeLemmas.{changed_dump_is_seen}
use Rattle.warm_dump.proofs.laws.changed_dump_is_seen.Goals as goal

pub returns : goal.returns
returns c = changed_dump_is_seen

use Rattle.warm_shards.proofs.WholeParts.{digests_are_gathered, gathered_is_whole}
use Rattle.warm_shards.proofs.laws.gathered_is_whole.Goals as goal

pub returns : goal.returns
returns c = record { history = gathered_is_whole; digests = digests_are_gathered }

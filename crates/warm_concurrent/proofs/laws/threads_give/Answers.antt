use Rattle.warm_concurrent.proofs.CallsGivenLemmas.{threads_give}
use Rattle.warm_concurrent.proofs.TwoThreadBatchLemmas.{two_threads_are_held}
use Rattle.warm_concurrent.proofs.laws.threads_give.Goals as goal

pub returns : goal.returns
returns c = record { given = threads_give; two = two_threads_are_held }

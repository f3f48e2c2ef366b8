use Rattle.warm_concurrent.proofs.ClosedPinLemmas.{pins_come_back}
use Rattle.warm_shard_machine.proofs.ShardPinLemmas.{pins_are_given}
use Rattle.warm_concurrent.proofs.ThreadPinLemmas.{pins_are_counted}
use Rattle.warm_concurrent.proofs.TwoThreadPinLemmas.{two_threads_unpin}
use Rattle.warm_concurrent.proofs.laws.pins_are_counted.Goals as goal

pub returns : goal.returns
returns c = record {
  shard = pins_are_given;
  threads = pins_are_counted;
  closed = pins_come_back;
  two = two_threads_unpin;
}

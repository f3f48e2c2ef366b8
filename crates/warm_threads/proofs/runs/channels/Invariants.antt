use Rattle.std.proofs.Common.{◌≡◌, length}
use Rattle.warm_threads.proofs.runs.channels.Given as goal

abbrev pub invariant-loop : goal.invariant-loop
invariant-loop l = length l.receivers.items ≡ l.counter

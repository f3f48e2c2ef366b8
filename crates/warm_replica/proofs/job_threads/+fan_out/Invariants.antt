use Rattle.std.proofs.Common.{length}
use Rattle.warm_replica.proofs.job_threads.+fan_out.Given as goal

abbrev pub decreases-fan_out : goal.decreases-fan_out
decreases-fan_out g l = length l.jobs.items

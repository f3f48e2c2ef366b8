use Rattle.std.proofs.Common.{length}
use Rattle.warm_replica.proofs.mail_loops.+listen_all.Given as goal

abbrev pub decreases-listen_all : goal.decreases-listen_all
decreases-listen_all g l = length l.loops.items

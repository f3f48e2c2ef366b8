-- The numbers and the names of refusals.
use Rattle.std.specs.Prelude.{ℕ, List, codes}
use Rattle.warm_replica.specs.declared.fault.FlushFault.{FlushFault}
use Rattle.warm_replica.specs.declared.fault.FlushFault.TheVariants as flush
use Rattle.warm_replica.specs.declared.fault.LendFault.{LendFault}
use Rattle.warm_replica.specs.declared.fault.LendFault.TheVariants as lend
use Rattle.warm_replica.specs.declared.fault.RunFault.{RunFault}
use Rattle.warm_replica.specs.declared.fault.RunFault.TheVariants as run

-- the number of each reason why a buffer was not flushed
abbrev pub flush_code : FlushFault → ℕ
flush_code flush.Memory = 1
flush_code flush.TurnsSpent = 2

-- the name of each reason why a buffer was not flushed
abbrev pub flush_name : FlushFault → List ℕ
flush_name flush.Memory = codes "Memory"
flush_name flush.TurnsSpent = codes "TurnsSpent"

-- the number of each reason why the bytes of a page were not lent: those of a turn and of a node
abbrev pub lend_code : LendFault → ℕ
lend_code lend.TurnsSpent = 2
lend_code lend.StaleSlot = 13

-- the name of each reason why the bytes of a page were not lent
abbrev pub lend_name : LendFault → List ℕ
lend_name lend.TurnsSpent = codes "TurnsSpent"
lend_name lend.StaleSlot = codes "StaleSlot"

-- the number of each reason why jobs did not run
abbrev pub run_code : RunFault → ℕ
run_code run.Memory = 1
run_code run.NoThread = 2
run_code run.BadCapacity = 3

-- the name of each reason why jobs did not run
abbrev pub run_name : RunFault → List ℕ
run_name run.Memory = codes "Memory"
run_name run.NoThread = codes "NoThread"
run_name run.BadCapacity = codes "BadCapacity"

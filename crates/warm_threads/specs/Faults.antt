-- The fault of a replica's run for a fault of a lower layer, and the fault of a play for that.
use Rattle.crossbeam_channel.specs.declared.err.SendError.{SendError}
use Rattle.crossbeam_channel.specs.declared.err.SendError.TheVariants as send
use Rattle.warm_world.specs.declared.play_fault.PlayFault.{PlayFault}
use Rattle.warm_world.specs.declared.play_fault.PlayFault.TheVariants as play
use Rattle.warm_replica.specs.declared.fault.RunFault.{RunFault}
use Rattle.warm_replica.specs.declared.fault.RunFault.TheVariants as run
use Rattle.warm_threads.specs.declared.fault.ReplicaRunFault.{ReplicaRunFault}
use Rattle.warm_threads.specs.declared.fault.ReplicaRunFault.TheVariants as replica

-- the fault for a message that a channel did not take: the channel is closed, or an allocation
-- failed
abbrev pub run_fault_of_send : {T : Type 0} → SendError T → ReplicaRunFault
run_fault_of_send (send.Disconnected _) = replica.Closed
run_fault_of_send (send.OutOfMemory _) = replica.Memory

-- the fault for workers that did not run; jobs of the setup's capacity are never refused for their
-- capacity
abbrev pub run_fault_of_workers : RunFault → ReplicaRunFault
run_fault_of_workers run.Memory = replica.Memory
run_fault_of_workers run.NoThread = replica.NoThread
run_fault_of_workers run.BadCapacity = replica.Memory

-- the play's fault; a closed channel means that a replica ended early
abbrev pub play_fault_of : ReplicaRunFault → PlayFault
play_fault_of replica.Memory = play.Memory
play_fault_of replica.NoThread = play.NoThread
play_fault_of replica.Closed = play.NoThread

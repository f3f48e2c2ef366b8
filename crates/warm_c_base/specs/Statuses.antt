-- The numbers of the refusals, and the status of a result.
use Rattle.std.specs.Prelude.{ℕ, ℤ, pos, ◌+◌, Result, Ok, Err}
use Rattle.warm_frames.specs.declared.fault.FrameFault.{FrameFault}
use Rattle.warm_frames.specs.declared.fault.FrameFault.TheVariants as frame
use Rattle.warm_frames.specs.declared.limit.TimeFault.{TimeFault}
use Rattle.warm_frames.specs.Faults as frame_faults
use Rattle.warm_dump.specs.declared.fault.DumpFault.{DumpFault}
use Rattle.warm_dump.specs.declared.fault.DumpFault.TheVariants as dump
use Rattle.warm_dump.specs.Faults as dump_faults
use Rattle.warm_pool.specs.Faults as pool_faults
use Rattle.warm_gossip.specs.Faults as node_faults
use Rattle.warm_c_base.specs.declared.status.Refusal.{Refusal}
use Rattle.warm_c_base.specs.declared.status.Refusal.TheVariants.{Node, NewPool, Frame, Closed}
use Rattle.warm_c_base.specs.declared.status.Refusal.TheVariants.{AlreadyOpen, BufferTooSmall}
use Rattle.warm_c_base.specs.declared.status.Refusal.TheVariants.{BadReplica, BadBucket, SameFile}
use Rattle.warm_c_base.specs.declared.status.Refusal.TheVariants.{Late, BadShards, Dump}
use Rattle.warm_c_base.specs.declared.status.Refusal.TheVariants.{TooManyPages}

-- 1 of an allocation failure, wherever it comes; of another fault of a frame the fault's own number
-- and 32
abbrev pub frame_code_of : FrameFault → ℕ
frame_code_of frame.Memory = 1
frame_code_of fault = 32 + frame_faults.fault_code fault

-- of a late time the fault's own number and 69
abbrev pub late_code_of : TimeFault → ℕ
late_code_of fault = 69 + frame_faults.time_fault_code fault

-- of a frame's fault in a dump the frame's; of another fault of a dump the fault's own number and
-- 64
abbrev pub dump_code_of : DumpFault → ℕ
dump_code_of (dump.Frame fault) = frame_code_of fault
dump_code_of fault = 64 + dump_faults.dump_fault_code fault

-- the number of each refusal
abbrev pub code_of : Refusal → ℕ
code_of (Node fault) = node_faults.code_of fault
code_of (NewPool fault) = pool_faults.new_code_of fault
code_of (Frame fault) = frame_code_of fault
code_of Closed = 64
code_of AlreadyOpen = 65
code_of BufferTooSmall = 66
code_of BadReplica = 67
code_of BadBucket = 68
code_of SameFile = 69
code_of (Late fault) = late_code_of fault
code_of BadShards = 72
code_of (Dump fault) = dump_code_of fault
code_of TooManyPages = 84

-- 0, or the number of the refusal
abbrev pub status_of : {T : Type 0} → Result T Refusal → ℤ
status_of (Ok given) = pos 0
status_of (Err why) = pos (code_of why)

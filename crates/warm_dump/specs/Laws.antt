-- The laws of dumps.
use Rattle.std.specs.Prelude.{◌≡◌, ◌⊎◌, ℕ, ◌<◌, ◌^◌, List}
use Rattle.warm_stamps.specs.Replicas.{IsReplica}
use Rattle.warm_history.specs.Histories.{HistoryView, IsHistory}
use Rattle.warm_frames.specs.declared.fault.FrameFault.TheVariants.{Memory}
use Rattle.warm_digest.specs.Exchange.{Fits, IsCollision}
use Rattle.warm_dump.specs.declared.fault.DumpFault.{DumpFault}
use Rattle.warm_dump.specs.declared.fault.DumpFault.TheVariants.{Frame, ReadFault}
use Rattle.warm_dump.specs.Dumps.{dump_of}
use Rattle.warm_dump.specs.Reading.{IsDump, IsDumpRefused}

-- what is written of a history is a dump of it
abbrev pub DumpReadsBack : Type 0
DumpReadsBack = (sender : ℕ) (h : HistoryView) → IsReplica sender → h.horizon < 2 ^ 64 → IsHistory h
    → Fits h → IsDump (dump_of sender h) h

-- no text is a dump of two histories
abbrev pub DumpHasOneHistory : Type 0
DumpHasOneHistory = (text : List ℕ) (h g : HistoryView) → IsDump text h → IsDump text g → h ≡ g

-- of a dump no fault is reported but Memory and ReadFault
abbrev pub DumpIsTaken : Type 0
DumpIsTaken = (text : List ℕ) (h : HistoryView) (at : ℕ) (why : DumpFault) → IsDump text h
    → IsDumpRefused text at why → (why ≡ Frame Memory) ⊎ (why ≡ ReadFault)

-- two dumps with one horizon and the same digests are of one history, or there is a collision
abbrev pub ChangedDumpIsSeen : Type 0
ChangedDumpIsSeen =
    (text changed : List ℕ) (h g : HistoryView) (a : IsDump text h) (b : IsDump changed g)
    → g.horizon ≡ h.horizon → b.digests ≡ a.digests → (g ≡ h) ⊎ IsCollision g h

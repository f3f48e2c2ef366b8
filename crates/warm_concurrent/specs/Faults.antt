-- The numbers and names of the refusals of shared shards: those of a node, and four more. 14 to 17
-- are those of a world.
use Rattle.std.specs.Prelude.{ℕ, List, codes}
use Rattle.warm_gossip.specs.Faults as node_faults
use Rattle.warm_concurrent.specs.declared.fault.SharedFault.{SharedFault}
use Rattle.warm_concurrent.specs.declared.fault.SharedFault.TheVariants.{Node, TurnsSpent, PinsFull}
use Rattle.warm_concurrent.specs.declared.fault.SharedFault.TheVariants.{NoPins, PinsHeld}

-- the number of each fault of a call of shared shards
abbrev pub code_of : SharedFault → ℕ
code_of (Node why) = node_faults.code_of why
code_of TurnsSpent = 18
code_of PinsFull = 19
code_of NoPins = 20
code_of PinsHeld = 21

-- the name of each fault of a call of shared shards
abbrev pub name_of : SharedFault → List ℕ
name_of (Node why) = node_faults.name_of why
name_of TurnsSpent = codes "TurnsSpent"
name_of PinsFull = codes "PinsFull"
name_of NoPins = codes "NoPins"
name_of PinsHeld = codes "PinsHeld"

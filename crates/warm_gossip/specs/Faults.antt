-- The numbers and names of a node's refusals: those of its pool, and two more.
use Rattle.std.specs.Prelude.{ℕ, List, codes}
use Rattle.warm_pool.specs.Faults as pool_faults
use Rattle.warm_gossip.specs.declared.fault.NodeFault.{NodeFault}
use Rattle.warm_gossip.specs.declared.fault.NodeFault.TheVariants.{Memory, Pool, StaleSlot}

-- the number of each fault of a call of a node
abbrev pub code_of : NodeFault → ℕ
code_of Memory = 1
code_of (Pool why) = pool_faults.code_of why
code_of StaleSlot = 13

-- the name of each fault of a call of a node
abbrev pub name_of : NodeFault → List ℕ
name_of Memory = codes "Memory"
name_of (Pool why) = pool_faults.name_of why
name_of StaleSlot = codes "StaleSlot"

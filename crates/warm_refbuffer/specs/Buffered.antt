-- The contents of a buffer, and the numbers of its refusals.
use Rattle.std.specs.Prelude.{ℕ, ◌≤◌, List, [], ◌∷◌, ◌++◌, codes}
use Rattle.warm_stamps.specs.declared.Reference.{Reference}
use Rattle.warm_refbuffer.specs.declared.TheConstants.{MAX_CAPACITY}
use Rattle.warm_refbuffer.specs.declared.BufferFault.{BufferFault}
use Rattle.warm_refbuffer.specs.declared.BufferFault.TheVariants.{Memory, BadCapacity}

-- the buffered references, the oldest first, and the capacity
pub record Buffered : Type 0 where
  pub refs : List Reference
  pub capacity : ℕ

-- the buffer with one reference appended
abbrev pub with_last : Buffered → Reference → Buffered
with_last buffer r = record buffer { refs = buffer.refs ++ r ∷ [] }

-- the empty buffer of the same capacity
abbrev pub cleared : Buffered → Buffered
cleared buffer = record buffer { refs = [] }

-- a valid capacity
pub record IsCapacity (capacity : ℕ) : Type 0 where
  pub from_one : 1 ≤ capacity
  pub in_range : capacity ≤ MAX_CAPACITY

-- the invariant of a buffer with this many references: its capacity is valid and not exceeded, and
-- is allocated
pub record IsBuffer (waiting capacity allocated : ℕ) : Type 0 where
  pub is_capacity : IsCapacity capacity
  pub within : waiting ≤ capacity
  pub is_allocated : capacity ≤ allocated

-- the number of each refusal
abbrev pub code_of : BufferFault → ℕ
code_of Memory = 1
code_of BadCapacity = 2

-- the name of each refusal
abbrev pub name_of : BufferFault → List ℕ
name_of Memory = codes "Memory"
name_of BadCapacity = codes "BadCapacity"

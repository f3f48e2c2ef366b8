-- What a call of a handle of visits does: opening, closing, and letting a visit into a node.
use Rattle.std.specs.Prelude.{◌≡◌, ℕ, ℤ, pos, Bool, true, false, Option, Some, None}
use Rattle.warm_stamps.specs.Replicas.{IsReplica}
use Rattle.warm_gossip.specs.declared.fault.NodeFault.TheVariants.{Memory}
use Rattle.warm_visits.specs.ShardNumbers.{IsShardCount}
use Rattle.warm_visits.specs.VisitMessages.{idle_visit}
use Rattle.warm_c_base.specs.declared.status.Refusal.{Refusal}
use Rattle.warm_c_base.specs.declared.status.Refusal.TheVariants.{AlreadyOpen, BadReplica}
use Rattle.warm_c_base.specs.declared.status.Refusal.TheVariants.{BadShards, Node}
use Rattle.warm_c_base.specs.Statuses.{code_of}
use Rattle.warm_c_calls.specs.declared.open_node.OpenNode.{OpenNode}
use Rattle.warm_c_calls.specs.declared.open_visit.OpenVisit.{OpenVisit}
use Rattle.warm_c_calls.specs.Visits.{EntersIf, wanted_shard}

-- why there are no visits of this replica in this many shards; an allocation may fail
abbrev pub VisitsRefused : ℕ → ℕ → Refusal → Type 0
VisitsRefused replica shards BadReplica = IsReplica replica → ⊥
VisitsRefused replica shards BadShards = IsReplica replica × (IsShardCount shards → ⊥)
VisitsRefused replica shards (Node Memory) = IsReplica replica × IsShardCount shards
VisitsRefused replica shards why = ⊥

-- An open handle says that it is open, and is as it was. A closed one is then open and holds a
-- visit that is idle, or stays closed.
abbrev pub OpensVisits : ℕ → ℕ → Option OpenVisit → ℤ → Option OpenVisit → Type 0
OpensVisits replica shards (Some old) status new = (status ≡ pos (code_of AlreadyOpen))
    × (new ≡ Some old)
OpensVisits replica shards None status (Some held) = (status ≡ pos 0)
    × (held.visit ≡ idle_visit replica shards) × IsReplica replica × IsShardCount shards
OpensVisits replica shards None status None = (why : Refusal) × (status ≡ pos (code_of why))
    × VisitsRefused replica shards why

-- whether there is a number, and which; it is as it was if there is none
abbrev pub IsOptionalNumber : Option ℕ → ℕ → Bool → ℕ → Type 0
IsOptionalNumber None before found number = (found ≡ false) × (number ≡ before)
IsOptionalNumber (Some n) before found number = (found ≡ true) × (number ≡ n)

-- a closed handle wants no shard
abbrev pub NamesShard : Option OpenVisit → ℕ → Bool → ℕ → Option OpenVisit → Type 0
NamesShard None before found number new = (found ≡ false) × (number ≡ before) × (new ≡ None)
NamesShard (Some old) before found number new =
    IsOptionalNumber (wanted_shard old.visit) before found number × (new ≡ Some old)

-- if one of the handles is closed, both are as they were
abbrev pub EntersNode : Option OpenVisit → Option OpenNode → Option OpenVisit → Option OpenNode
    → Type 0
EntersNode None from visit' from' = (visit' ≡ None) × (from' ≡ from)
EntersNode (Some v) None visit' from' = (visit' ≡ Some v) × (from' ≡ None)
EntersNode (Some v) (Some node) (Some w) (Some node') =
    EntersIf (wanted_shard v.visit) v node w node'
EntersNode (Some v) (Some node) visit' from' = ⊥

-- the visit is idle
abbrev pub EndsVisit : Option OpenVisit → Option OpenVisit → Type 0
EndsVisit None new = new ≡ None
EndsVisit (Some old) (Some new) = new.visit ≡ idle_visit old.visit.id old.visit.count
EndsVisit (Some old) None = ⊥

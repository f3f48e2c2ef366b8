-- A visit of all shards in one turn of a shard: what it must be, what it leaves, and what it gave.
use Rattle.std.specs.Prelude.{◌≡◌, ℕ, ◌<◌, Bool, true, false, List, [], ◌∷◌, Some}
use Rattle.warm_history.specs.ReferenceSets.{ReferenceSet, set_of_list}
use Rattle.warm_visits.specs.Laws.{AreOwnErrands}
use Rattle.warm_visits.specs.Visits.{Ask, Errand, VisitState, entries_left, giving, next_shard}

-- the visit goes to so many shards, next to that of this number, and asks of each what is of its
-- pages alone
pub record IsNextAt (total shard : ℕ) (v : VisitState) : Type 0 where
  pub count : v.count ≡ total
  pub next : next_shard v ≡ Some shard
  pub own : AreOwnErrands total v.plan

-- the visit has gone on: it goes to as many shards, and fewer entries are left
pub record IsOnward (v w : VisitState) : Type 0 where
  pub count : w.count ≡ v.count
  pub shorter : entries_left w < entries_left v

-- what was given to a shard of which this was asked, unless it refused
abbrev pub gave_ask : Ask → Bool → ReferenceSet
gave_ask (giving S) false = S
gave_ask (giving S) true = set_of_list []
gave_ask ask refused = set_of_list []

-- what the first of these errands gave its shard, unless it was refused
abbrev pub gave_first : List Errand → Bool → ReferenceSet
gave_first [] refused = set_of_list []
gave_first (e ∷ es) refused = gave_ask e.ask refused

-- what a visit gave the shard of its next errand, if it is this one afterwards
abbrev pub gave_entry : VisitState → VisitState → ReferenceSet
gave_entry v w = gave_first v.plan w.stopped

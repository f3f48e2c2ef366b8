-- How a visit is held: the shard of its next errand, and what it does in each.
use Rattle.std.specs.Prelude.{◌≡◌, ◌≢◌, ℕ, ◌<◌, ◌≤◌, Bool, false, List, [], ◌++◌, length, min}
use Rattle.std.specs.Prelude.{slice_index_or, Option, Some, None}
use Rattle.warm_history.specs.ReferenceSets.{ReferenceSet, set_of_list}
use Rattle.warm_history.specs.Histories.{history_of_entries_at, references_of}
use Rattle.warm_visits.specs.declared.giving.Parts.{Parts}
use Rattle.warm_visits.specs.declared.giving.Parts.TheVariants.{Batch, Entries}
use Rattle.warm_visits.specs.declared.visit.Work.{Work}
use Rattle.warm_visits.specs.declared.visit.Work.TheVariants.{Give, Raise, Read}
use Rattle.warm_visits.specs.ShardNumbers.{IsShardCount}
use Rattle.warm_visits.specs.VisitReads.{IsReadMade}
use Rattle.warm_visits.specs.Visits.{After, Errand, Made, VisitState, ends}
use Rattle.warm_visits.specs.Visits.{nothing, raised}
use Rattle.warm_visits.specs.Plans.{give_from, raise_from}

-- Parts

-- what is given to the shard of this number
abbrev pub part_at : Parts → ℕ → ReferenceSet
part_at (Batch parts) i = set_of_list (slice_index_or parts i [])
part_at (Entries horizon parts) i =
    references_of (history_of_entries_at horizon (slice_index_or parts i []))

-- how many parts there are
abbrev pub parts_count : Parts → ℕ
parts_count (Batch parts) = length parts
parts_count (Entries horizon parts) = length parts

-- the first shard from this one on that has a part; or how many there are
pub record IsFirstPart (parts : Parts) (start first : ℕ) : Type 0 where
  pub from : start ≤ first
  pub below : first ≤ parts_count parts
  pub passed : (i : ℕ) → start ≤ i → i < first → (part_at parts i).given ≡ []
  pub there : first < parts_count parts → (part_at parts first).given ≢ []

-- A visit

-- the errands from this shard on, once all are raised
abbrev pub work_from : ℕ → Work → ℕ → List Errand
work_from count Raise first = []
work_from count (Give parts) first = give_from count (part_at parts) first
work_from count (Read reading) first = reading.plan

-- the earliest horizon, with this one
abbrev pub earlier : Option ℕ → ℕ → ℕ
earlier None horizon = horizon
earlier (Some earliest) horizon = min earliest horizon

-- what a visit has made
abbrev pub made_of : Work → Option ℕ → Made
made_of Raise kept = raised kept
made_of (Give parts) kept = nothing
made_of (Read reading) kept = reading.made

-- what follows its last errand
abbrev pub after_of : Work → After
after_of (Read reading) = reading.after
after_of work = ends

-- the visit that is held so: its errands raise shards, and then do this work
abbrev pub visit_of : ℕ → ℕ → ℕ → ℕ → ℕ → Work → Option ℕ → Bool → VisitState
visit_of id count time rising shard work kept stopped = record {
  id = id;
  count = count;
  plan = raise_from count time rising ++ work_from count work shard;
  made = made_of work kept;
  after = after_of work;
  stopped = stopped;
}

-- what it reads is of the same shards, was not refused, and no horizon that a shard kept
pub record IsReader (number shards : ℕ) (reading : VisitState) : Type 0 where
  pub id : reading.id ≡ number
  pub count : reading.count ≡ shards
  pub going : reading.stopped ≡ false
  pub made : IsReadMade reading.made

-- the shard is one that has an errand, or the count
abbrev pub IsPlace : ℕ → ℕ → ℕ → Work → Type 0
IsPlace id count shard Raise = shard ≡ count
IsPlace id count shard (Give parts) = (parts_count parts ≡ count)
    × (shard < count → (part_at parts shard).given ≢ [])
IsPlace id count shard (Read reading) = IsReader id count reading

-- how a visit is held: no shard is passed over that has an errand
pub record IsVisit (id count rising shard : ℕ) (work : Work) : Type 0 where
  pub valid : IsShardCount count
  pub begins : rising ≤ count
  pub within : shard ≤ count
  pub place : IsPlace id count shard work

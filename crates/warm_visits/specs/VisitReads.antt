-- How a visit that reads is held: what it asks for next, and what it has.
use Rattle.std.specs.Prelude.{◌≡◌, ℕ, ◌+◌, ◌%◌, ◌^◌, ◌<◌, ◌≤◌, true, false, List, [], ◌∷◌, map}
use Rattle.std.specs.Prelude.{replicate, Option, Some, None, Result, Ok, Err}
use Rattle.warm_stamps.specs.declared.PageId.{PageId}
use Rattle.warm_stamps.specs.declared.TheConstants.{BUCKETS}
use Rattle.warm_frames.specs.declared.layout.TheConstants.{DIGEST_SIZE}
use Rattle.warm_history.specs.Histories.{history_of_entries}
use Rattle.warm_frames.specs.declared.message.Message.{Message}
use Rattle.warm_frames.specs.declared.message.Message.TheVariants.{Entries, Want}
use Rattle.warm_gossip.specs.declared.fault.NodeFault.{NodeFault}
use Rattle.warm_gossip.specs.declared.fault.NodeFault.TheVariants.{Memory}
use Rattle.warm_gossip.specs.State.{NodeState}
use Rattle.warm_visits.specs.declared.gathering.Gathering.{Gathering}
use Rattle.warm_visits.specs.declared.copying.Copying.{Copying}
use Rattle.warm_visits.specs.declared.reading.Task.{Task}
use Rattle.warm_visits.specs.declared.reading.Task.TheVariants.{Copy, Gather, Send}
use Rattle.warm_visits.specs.declared.sending.Sending.{Sending}
use Rattle.warm_visits.specs.declared.sending.Wanted.{Wanted}
use Rattle.warm_visits.specs.Visits.{After, Errand, GathersOffer, HasEntered, Made, NodeSays}
use Rattle.warm_visits.specs.Visits.{VisitState, answered, at_shard, begun, compares, copying, ends}
use Rattle.warm_visits.specs.Visits.{entries_left, gathered, joined, nothing, offered, offering}
use Rattle.warm_visits.specs.Visits.{raised, refused, requests, sending}
use Rattle.warm_visits.specs.Plans.{from_shard}

-- what was made is read, and no horizon that a shard kept
abbrev pub IsReadMade : Made → Type 0
IsReadMade nothing = ⊥
IsReadMade (raised horizon) = ⊥
IsReadMade made = Unit {0}

-- the visit has run its next errand at the node, which did not refuse it
pub record HasReadOne (v : VisitState) (old : NodeState) (w : VisitState) (new : NodeState)
    : Type 0 where
  pub entered : HasEntered v old w new
  pub shorter : entries_left w < entries_left v
  pub id : w.id ≡ v.id
  pub count : w.count ≡ v.count
  pub going : w.stopped ≡ false
  pub made : IsReadMade w.made

-- One entry of a visit that reads: the node says something, and the visit takes it; or it is
-- refused, and the visit is as it was.
abbrev pub ReadsOne : VisitState → NodeState → Result Unit NodeFault → VisitState → NodeState
    → Type 0
ReadsOne v old (Ok done) w new = HasReadOne v old w new
ReadsOne v old (Err why) w new = HasEntered v old (record v { stopped = true }) new × (w ≡ v)
    × (why ≡ Memory)

-- Gathering

-- what shards have offered
abbrev pub gathered_in : Gathering → Made
gathered_in g = gathered g.horizon g.digests

-- zeros in place of each digest, at no horizon, and these digests wait
abbrev pub nothing_gathered : Option (List (List ℕ)) → Gathering
nothing_gathered waiting = record {
  shard = 0;
  horizon = 0;
  digests = replicate BUCKETS (replicate DIGEST_SIZE 0);
  waiting = waiting;
}

-- the next shard offers, which is gathered; or it refuses, and nothing changes
abbrev pub AddsOffer : ℕ → NodeState → Gathering → Result Unit NodeFault → NodeState → Gathering
    → Type 0
AddsOffer count old g (Ok done) new h = (horizon : ℕ) × (table : List (List ℕ))
    × NodeSays old offering (offered horizon table) new
    × GathersOffer count g.shard horizon table (gathered_in g) (gathered_in h)
    × (h.shard ≡ g.shard + 1) × (h.waiting ≡ g.waiting)
AddsOffer count old g (Err why) new h = NodeSays old offering refused new × (h ≡ g) × (why ≡ Memory)

-- Sending

-- a page whose device's number has 16 bits, and its own 64; or none
abbrev pub IsPageOrNone : Option PageId → Type 0
IsPageOrNone None = Unit {0}
IsPageOrNone (Some p) = (p.dev < 2 ^ 16) × (p.no < 2 ^ 64)

-- a message of entries that has none
abbrev pub HasNoEntries : Message → Type 0
HasNoEntries (Entries sender horizon entries) = entries ≡ []
HasNoEntries message = ⊥

-- the first bucket from a page on, and those after it from their first page on
abbrev pub send_from : ℕ → Option ℕ → List ℕ → Option PageId → List Errand
send_from count None later after = []
send_from count (Some bucket) later after = at_shard (bucket % count) (sending bucket after)
    ∷ map (λ b. at_shard (b % count) (sending b None)) later

-- the request that comes last, if one does
abbrev pub asks_for : ℕ → Option Wanted → After
asks_for id None = ends
asks_for id (Some want) = requests (Want id want.horizon want.request)

-- a visit that sends
abbrev pub sending_visit : ℕ → ℕ → Sending → VisitState
sending_visit id count s = begun id count (send_from count s.bucket s.later s.after)
    (answered s.messages.items) (asks_for id s.want)

-- Tasks

-- what follows the last offer
abbrev pub waits_for : Option (List (List ℕ)) → After
waits_for None = ends
waits_for (Some digests) = compares digests

-- a visit that gathers digests
abbrev pub gathering_visit : ℕ → ℕ → Gathering → VisitState
gathering_visit id count g = begun id count (from_shard g.shard count offering) (gathered_in g)
    (waits_for g.waiting)

-- no history was copied yet
abbrev pub nothing_copied : Copying
nothing_copied = record { shard = 0; history = history_of_entries [] }

-- a visit that copies
abbrev pub copying_visit : ℕ → ℕ → Copying → VisitState
copying_visit id count c =
    begun id count (from_shard c.shard count copying) (joined c.history) ends

-- a visit that reads
abbrev pub reading_of : ℕ → ℕ → Task → VisitState
reading_of id count (Gather g) = gathering_visit id count g
reading_of id count (Send s) = sending_visit id count s
reading_of id count (Copy c) = copying_visit id count c

-- if digests wait, some shard has not offered yet
abbrev pub IsBeforeLast : ℕ → ℕ → Option (List (List ℕ)) → Type 0
IsBeforeLast shard count None = shard ≤ count
IsBeforeLast shard count (Some digests) = shard < count

-- no shard is passed over, and the page after which a portion begins is one
abbrev pub IsTask : ℕ → Task → Type 0
IsTask count (Gather g) = IsBeforeLast g.shard count g.waiting
IsTask count (Send s) = IsPageOrNone s.after
IsTask count (Copy c) = c.shard ≤ count

-- there are shards, and the task is one of them
pub record IsReadingVisit (count : ℕ) (task : Task) : Type 0 where
  pub some : 0 < count
  pub place : IsTask count task

-- One more offer

-- The next shard has offered, and nothing is compared yet; or it was the last one, and the buckets
-- that differ are sent next; or it refused, and nothing has changed.
abbrev pub GathersOne : ℕ → ℕ → Gathering → NodeState → Result (Option Sending) NodeFault
    → Gathering → NodeState → Type 0
GathersOne id count g old (Ok None) h new =
    HasReadOne (gathering_visit id count g) old (gathering_visit id count h) new
    × IsBeforeLast h.shard count h.waiting
GathersOne id count g old (Ok (Some s)) h new =
    HasReadOne (gathering_visit id count g) old (sending_visit id count s) new
    × IsPageOrNone s.after
GathersOne id count g old (Err why) h new = (h ≡ g) × (why ≡ Memory)
    × HasEntered (gathering_visit id count g) old
    (record (gathering_visit id count g) { stopped = true }) new

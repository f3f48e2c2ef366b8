-- A call of the whole as a visit: the errands that it still has, each at one shard, and what those
-- before have made. Whoever has the shards lets it into that of its next errand, until none is
-- left.
use Rattle.std.specs.Prelude.{◌≡◌, ◌≢◌, ◌↔◌, ℕ, ◌+◌, ◌*◌, ◌-◌, ◌%◌, ◌^◌, ◌<◌, ◌==◌, if◌then◌else◌}
use Rattle.std.specs.Prelude.{max, min, Bool, true, false, IsTrue, List, [], ◌∷◌, ◌++◌, map}
use Rattle.std.specs.Prelude.{replicate, Option, Some, None, Result, Ok, Err}
use Rattle.std.specs.List.{flat_map, range_with_len}
use Rattle.warm_stamps.specs.declared.PageId.{PageId}
use Rattle.warm_stamps.specs.declared.Reference.{Reference}
use Rattle.warm_stamps.specs.declared.TheConstants.{BUCKETS}
use Rattle.warm_history.specs.ReferenceSets.{ReferenceSet, set_of_list}
use Rattle.warm_history.specs.Histories.{HistoryView, entries_of, history_of_entries, join}
use Rattle.warm_history.specs.Histories.{references_of}
use Rattle.warm_frames.specs.declared.layout.TheConstants.{DIGEST_SIZE}
use Rattle.warm_frames.specs.declared.message.Message.{Message}
use Rattle.warm_frames.specs.declared.message.Message.TheVariants.{Entries, Digest, Want}
use Rattle.warm_frames.specs.Limits.{entries_in}
use Rattle.warm_digest.specs.BucketDigests.{MarksDiffering, digests_of}
use Rattle.warm_peer.specs.Answers.{refs_in, requested_buckets}
use Rattle.warm_peer.specs.Chunks.{last_page}
use Rattle.warm_peer.specs.Since.{HasMoreSince, sent_since}
use Rattle.warm_gossip.specs.declared.fault.NodeFault.{NodeFault}
use Rattle.warm_gossip.specs.declared.fault.NodeFault.TheVariants.{Memory}
use Rattle.warm_gossip.specs.State.{NodeState}
use Rattle.warm_visits.specs.Digests.{FillsShard}
use Rattle.warm_visits.specs.Given.{IsGiven, IsSame, at_horizon}
use Rattle.warm_visits.specs.ShardNumbers.{of_shard}

-- Errands

-- What a visit asks of a node: to take references in, at their horizon; its digests; the first
-- entries of a bucket after a page; a copy of its history.
pub data Ask : Type 0 where
  giving : ReferenceSet → Ask
  offering : Ask
  sending : ℕ → Option PageId → Ask
  copying : Ask

-- What a node says to that: the horizon that it has then; its horizon and its digests; a message of
-- entries, and whether more follow; its history; or that it has no memory for it.
pub data Said : Type 0 where
  given : ℕ → Said
  offered : ℕ → List (List ℕ) → Said
  sent : Message → Bool → Said
  copied : HistoryView → Said
  refused : Said

-- what is asked of the shard of this number
pub record Errand : Type 0 where
  pub shard : ℕ
  pub ask : Ask

-- the errand of the shard of this number
abbrev pub at_shard : ℕ → Ask → Errand
at_shard i ask = record { shard = i; ask = ask }

-- Visits

-- What a visit has made: nothing; the earliest horizon of a shard that was raised; the latest
-- horizon and the digests that shards offered; the messages of an answer; the join of histories.
pub data Made : Type 0 where
  nothing : Made
  raised : Option ℕ → Made
  gathered : ℕ → List (List ℕ) → Made
  answered : List Message → Made
  joined : HistoryView → Made

-- What follows the last errand: nothing; a comparison with these digests; or this last message.
pub data After : Type 0 where
  ends : After
  compares : List (List ℕ) → After
  requests : Message → After

-- A visit of a replica of this number, in this many shards. If a shard has refused its errand, the
-- visit is stopped, and the errand is still the next one.
pub record VisitState : Type 0 where
  pub id : ℕ
  pub count : ℕ
  pub plan : List Errand
  pub made : Made
  pub after : After
  pub stopped : Bool

-- a visit with these errands, which no shard has refused
abbrev pub begun : ℕ → ℕ → List Errand → Made → After → VisitState
begun id count plan made after = record {
  id = id;
  count = count;
  plan = plan;
  made = made;
  after = after;
  stopped = false;
}

-- One entry

-- What a node says to what is asked of it, and what it is then. It does not refuse a horizon alone.
abbrev pub NodeSays : NodeState → Ask → Said → NodeState → Type 0
NodeSays old (giving S) (given horizon) new = IsGiven S old new × (horizon ≡ new.history.horizon)
NodeSays old (giving S) refused new = (S.given ≢ []) × IsSame old new
NodeSays old (giving S) said new = ⊥
NodeSays old offering (offered horizon table) new = (horizon ≡ old.history.horizon)
    × (table ≡ digests_of (entries_of old.history)) × IsSame old new
NodeSays old offering refused new = IsSame old new
NodeSays old offering said new = ⊥
NodeSays old (sending bucket after) (sent message more) new =
    (message ≡ sent_since old.id old.history bucket 0 after)
    × (IsTrue more ↔ HasMoreSince old.history bucket 0 after) × IsSame old new
NodeSays old (sending bucket after) refused new = IsSame old new
NodeSays old (sending bucket after) said new = ⊥
NodeSays old copying (copied h) new = (h ≡ old.history) × IsSame old new
NodeSays old copying refused new = IsSame old new
NodeSays old copying said new = ⊥

-- the earliest horizon, with that of one more shard
abbrev pub keeps : Made → ℕ → Made
keeps (raised None) horizon = raised (Some horizon)
keeps (raised (Some earliest)) horizon = raised (Some (min earliest horizon))
keeps made horizon = made

-- the offer of one more shard is gathered: the later horizon, and the digests of its buckets
abbrev pub GathersOffer : ℕ → ℕ → ℕ → List (List ℕ) → Made → Made → Type 0
GathersOffer count i horizon table (gathered latest digests) (gathered later filled) =
    (later ≡ max latest horizon) × FillsShard count i digests table filled
GathersOffer count i horizon table before after = ⊥

-- what is made, with one more message; one without entries is none
abbrev pub with_message : Made → Message → Made
with_message (answered messages) (Entries sender horizon []) = answered messages
with_message (answered messages) message = answered (messages ++ message ∷ [])
with_message made message = made

-- the errand for the entries after a message's last page, if more of the bucket follow
abbrev pub goes_on : ℕ → ℕ → Message → Bool → List Errand
goes_on i bucket message true = at_shard i (sending bucket (last_page (entries_in message))) ∷ []
goes_on i bucket message false = []

-- the join of histories, with that of one more shard
abbrev pub with_history : Made → HistoryView → Made
with_history (joined h) g = joined (join h g)
with_history made g = made

-- an errand for each requested bucket, at its shard
abbrev pub send_plan : ℕ → ℕ → List Errand
send_plan count request =
    map (λ b. at_shard (b % count) (sending b None)) (requested_buckets request)

-- What follows an offer. If digests wait and it was the last one: the entries of the buckets that
-- differ, and then a request for these; nothing if none differs. Else the visit goes on as it is.
abbrev pub ComparesOffers : List Errand → After → Made → VisitState → VisitState → Type 0
ComparesOffers [] (compares digests) (gathered horizon table) v w = (request : ℕ)
    × (request < 2 ^ 64) × MarksDiffering request digests table
    × (w ≡ begun v.id v.count (send_plan v.count request) (answered [])
    (if request == 0 then ends else requests (Want v.id horizon request)))
ComparesOffers rest after made v w = w ≡ v

-- the visit with these errands left, and this made
abbrev pub onward : VisitState → List Errand → Made → VisitState
onward v rest made = record v { plan = rest; made = made }

-- what becomes of a visit to whose errand a node says so, if these are left
abbrev pub Takes : VisitState → ℕ → Ask → List Errand → Said → VisitState → Type 0
Takes v i (giving S) rest (given horizon) w = w ≡ onward v rest (keeps v.made horizon)
Takes v i (giving S) rest refused w = w ≡ record v { stopped = true }
Takes v i (giving S) rest said w = ⊥
Takes v i offering rest (offered horizon table) w = (made : Made)
    × GathersOffer v.count i horizon table v.made made
    × ComparesOffers rest v.after made (onward v rest made) w
Takes v i offering rest refused w = w ≡ record v { stopped = true }
Takes v i offering rest said w = ⊥
Takes v i (sending bucket after) rest (sent message more) w =
    w ≡ onward v (goes_on i bucket message more ++ rest) (with_message v.made message)
Takes v i (sending bucket after) rest refused w = w ≡ record v { stopped = true }
Takes v i (sending bucket after) rest said w = ⊥
Takes v i copying rest (copied h) w = w ≡ onward v rest (with_history v.made h)
Takes v i copying rest refused w = w ≡ record v { stopped = true }
Takes v i copying rest said w = ⊥

-- One entry: the node says something to the next errand of the visit, which takes it.
pub record Enters (v : VisitState) (old : NodeState) (e : Errand) (said : Said) (w : VisitState)
    (new : NodeState) : Type 0 where
  pub ready : v.stopped ≡ false
  pub rest : List Errand
  pub next : v.plan ≡ e ∷ rest
  pub says : NodeSays old e.ask said new
  pub takes : Takes v e.shard e.ask rest said w

-- the visit has run its next errand at the node
abbrev pub HasEntered : VisitState → NodeState → VisitState → NodeState → Type 0
HasEntered v old w new = (e : Errand) × (said : Said) × Enters v old e said w new

-- the shard of the next errand, unless one was refused
abbrev pub shard_next : Bool → List Errand → Option ℕ
shard_next true plan = None
shard_next false [] = None
shard_next false (e ∷ rest) = Some e.shard

-- the shard that the visit enters next
abbrev pub next_shard : VisitState → Option ℕ
next_shard v = shard_next v.stopped v.plan

-- what a call returns whose visit has no errand left, or was stopped
abbrev pub result_of : Bool → Result Unit NodeFault
result_of false = Ok tt
result_of true = Err Memory

-- How far it is to the end

-- a number larger than that of the pages after this one
abbrev pub pages_after : Option PageId → ℕ
pages_after None = 2 ^ 80 + 1
pages_after (Some p) = 2 ^ 80 - (p.dev * 2 ^ 64 + p.no)

-- how many entries an errand takes at most, if each message ends with a later page
abbrev pub entries_for : Ask → ℕ
entries_for (sending bucket after) = pages_after after + 1
entries_for ask = 1

-- how many entries these errands take at most
abbrev pub entries_for_all : List Errand → ℕ
entries_for_all [] = 0
entries_for_all (e ∷ es) = entries_for e.ask + entries_for_all es

-- how many entries what follows takes at most: after a comparison, one errand for each bucket
abbrev pub entries_after : After → ℕ
entries_after (compares digests) = BUCKETS * entries_for (sending 0 None)
entries_after after = 0

-- how many entries are left at most; none if an errand was refused
abbrev pub entries_unless : Bool → List Errand → After → ℕ
entries_unless true plan after = 0
entries_unless false plan after = entries_for_all plan + entries_after after

-- how many entries of a visit are left at most, however much the shards send
abbrev pub entries_left : VisitState → ℕ
entries_left v = entries_unless v.stopped v.plan v.after

-- The calls of the whole

-- the numbers of the shards, in their order
abbrev pub each_shard : ℕ → List ℕ
each_shard count = range_with_len 0 count

-- the same errand at each shard
abbrev pub at_each : ℕ → Ask → List Errand
at_each count ask = map (λ i. at_shard i ask) (each_shard count)

-- an errand at a shard to which references are given, if there are any
abbrev pub part_errand : ℕ → ReferenceSet → List Reference → List Errand
part_errand i S [] = []
part_errand i S (r ∷ rs) = at_shard i (giving S) ∷ []

-- the errand that gives a shard its part, if it has one
abbrev pub give_part : ℕ → ReferenceSet → List Errand
give_part i S = part_errand i S S.given

-- the errands that give references: to each shard those to its pages, if there are any
abbrev pub give_plan : ℕ → ReferenceSet → List Errand
give_plan count S = flat_map (λ i. give_part i (of_shard count i S)) (each_shard count)

-- the errands that raise each shard
abbrev pub raise_plan : ℕ → ℕ → List Errand
raise_plan count time = at_each count (giving (at_horizon time))

-- the errands that raise each shard, and then give references
abbrev pub raise_and_give : ℕ → ReferenceSet → List Errand
raise_and_give count S = raise_plan count S.horizon ++ give_plan count S

-- the visit of a batch: each shard is given the references to its pages
abbrev pub absorb_visit : ℕ → ℕ → List Reference → VisitState
absorb_visit id count batch = begun id count (give_plan count (set_of_list batch)) nothing ends

-- the visit of a horizon: each shard is raised to it
abbrev pub raise_visit : ℕ → ℕ → ℕ → VisitState
raise_visit id count time = begun id count (raise_plan count time) (raised None) ends

-- the visit of references at their horizon
abbrev pub give_visit : ℕ → ℕ → ReferenceSet → VisitState
give_visit id count S = begun id count (raise_and_give count S) nothing ends

-- the visit of another history: all that it stands for is given
abbrev pub join_visit : ℕ → ℕ → HistoryView → VisitState
join_visit id count h = give_visit id count (references_of h)

-- zeros in place of the digest of each bucket, at no horizon
abbrev pub nothing_offered : Made
nothing_offered = gathered 0 (replicate BUCKETS (replicate DIGEST_SIZE 0))

-- the visit in which each shard offers its digests
abbrev pub offer_visit : ℕ → ℕ → VisitState
offer_visit id count = begun id count (at_each count offering) nothing_offered ends

-- The visit of a message. Each shard is raised to its horizon. Then those are given its entries
-- that have pages of them; or those send that have requested buckets; or all offer, and what they
-- offer is compared.
abbrev pub receive_visit : ℕ → ℕ → Message → VisitState
receive_visit id count (Entries sender horizon entries) =
    give_visit id count (refs_in (Entries sender horizon entries))
receive_visit id count (Want sender horizon request) =
    begun id count (raise_plan count horizon ++ send_plan count request) (answered []) ends
receive_visit id count (Digest sender horizon digests) =
    begun id count (raise_plan count horizon ++ at_each count offering) nothing_offered
    (compares digests)

-- the message is one of entries
abbrev pub HasEntries : Message → Type 0
HasEntries (Entries sender horizon entries) = Unit {0}
HasEntries message = ⊥

-- the visit that copies the history of each shard
abbrev pub copy_visit : ℕ → ℕ → VisitState
copy_visit id count = begun id count (at_each count copying) (joined (history_of_entries [])) ends

-- What was made

-- the messages of the answer of a visit that has no errand left
abbrev pub answers_of : Made → After → List Message
answers_of (answered messages) (requests message) = messages ++ message ∷ []
answers_of (answered messages) after = messages
answers_of made after = []

-- what all shards offer
abbrev pub offer_in : ℕ → Made → Option Message
offer_in id (gathered horizon table) = Some (Digest id horizon table)
offer_in id made = None

-- the history that a visit copied
abbrev pub copy_of : Made → Option HistoryView
copy_of (joined h) = Some h
copy_of made = None

-- the earliest horizon of a shard that was raised
abbrev pub kept_of : Made → Option ℕ
kept_of (raised horizon) = horizon
kept_of made = None

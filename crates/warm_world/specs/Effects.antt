-- The effect of an event on the lists of references and on the pools, and its answer.
use Rattle.std.specs.Prelude.{◌≡◌, ℕ, ◌+◌, ◌==◌, ◌≤◌, List, [], ◌∷◌, length, Option, Some, None}
use Rattle.std.specs.Prelude.{MatchOption, map, if◌then◌else◌, slice_index_or}
use Rattle.warm_stamps.specs.declared.PageId.{PageId}
use Rattle.warm_stamps.specs.declared.Reference.{Reference}
use Rattle.warm_history.specs.Histories.{entries_of, history}
use Rattle.warm_history.specs.Carried.{carried}
use Rattle.warm_frames.specs.declared.layout.TheConstants.{MAX_ENTRIES}
use Rattle.warm_rank.specs.Ranking.{hottest_pages}
use Rattle.warm_digest.specs.BucketDigests.{digests_of}
use Rattle.warm_pool.specs.View.{PoolView}
use Rattle.warm_pool.specs.Retiring.{Emptied}
use Rattle.warm_gossip.specs.declared.call.Call.{Call}
use Rattle.warm_gossip.specs.declared.call.Call.TheVariants as call
use Rattle.warm_gossip.specs.declared.call.Reply.{Reply}
use Rattle.warm_gossip.specs.declared.call.Reply.TheVariants as reply
use Rattle.warm_gossip.specs.declared.fault.NodeFault.{NodeFault}
use Rattle.warm_gossip.specs.declared.fault.NodeFault.TheVariants.{Memory}
use Rattle.warm_gossip.specs.Step.{Step}
use Rattle.warm_world.specs.declared.event.Event.{Event}
use Rattle.warm_world.specs.declared.event.Event.TheVariants.{Refer, Flush, Send, Offer, Deliver}
use Rattle.warm_world.specs.declared.event.Event.TheVariants.{Pin, Unpin, Put, Get, Victim, Warm}
use Rattle.warm_world.specs.declared.event.Event.TheVariants.{WarmStep, Restart, Horizon, Show}
use Rattle.warm_world.specs.declared.event.Answer.{Answer}
use Rattle.warm_world.specs.declared.event.Answer.TheVariants.{Done, Shown, FrameNo, Took, Pinned}
use Rattle.warm_world.specs.declared.event.Answer.TheVariants.{Bytes, Page, Pages, Loaded, Kept}
use Rattle.warm_world.specs.declared.event.Answer.TheVariants.{Refused}
use Rattle.warm_world.specs.declared.event.WorldFault.{WorldFault}
use Rattle.warm_world.specs.declared.event.WorldFault.TheVariants.{Node, NoSuchReplica}
use Rattle.warm_world.specs.declared.event.WorldFault.TheVariants.{NoSuchWorker, NoSuchFrame}
use Rattle.warm_world.specs.Lists.{IsNumber, index_of_number}
use Rattle.warm_world.specs.States.{ModelState, MessageRecord, References, Digests, replica}
use Rattle.warm_world.specs.States.{reach_of, pool_of, replica_node, set_replica, set_pool, record_at}
use Rattle.warm_world.specs.States.{add_records, pending, flushed, raised_replica, referred}
use Rattle.warm_world.specs.States.{restarted}
use Rattle.warm_world.specs.GossipAnswers.{AreAnswers, reach_after}

-- the replica that an event names
abbrev pub replica_of : Event → ℕ
replica_of (Refer i w page time) = i
replica_of (Flush i w) = i
replica_of (Send i bucket after) = i
replica_of (Offer i) = i
replica_of (Deliver j k) = j
replica_of (Pin i page) = i
replica_of (Unpin i slot) = i
replica_of (Put i slot at bytes) = i
replica_of (Get i slot at len) = i
replica_of (Victim i) = i
replica_of (Warm i n) = i
replica_of (WarmStep i) = i
replica_of (Restart i) = i
replica_of (Horizon i time) = i
replica_of (Show i) = i

-- the worker that an event names, if it names one
abbrev pub worker_of : Event → Option ℕ
worker_of (Refer i w page time) = Some w
worker_of (Flush i w) = Some w
worker_of _ = None

-- the message that an event names, if it names one
abbrev pub message_of : Event → Option ℕ
message_of (Deliver j k) = Some k
message_of _ = None

-- the number of workers of each replica, and the number of messages sent
pub record Shape : Type 0 where
  pub workers : List ℕ
  pub messages : ℕ

-- the number of workers of each replica of a model state, and the number of messages sent
abbrev pub shape : ModelState → Shape
shape m = record { workers = map (λ r. length r.pending) m.replicas; messages = length m.records }

-- the replica that an event names exists
abbrev pub HasReplica : Shape → Event → Type 0
HasReplica s event = IsNumber (replica_of event) (length s.workers)

-- the replica that an event names has a worker of this number
abbrev pub IsWorker : Shape → Event → ℕ → Type 0
IsWorker s event w = IsNumber w (slice_index_or s.workers (index_of_number (replica_of event)) 0)

-- a message of this number was sent
abbrev pub IsMessage : Shape → ℕ → Type 0
IsMessage s k = IsNumber k s.messages

-- everything that an event names exists
pub record IsNamed (s : Shape) (event : Event) : Type 0 where
  pub replica_there : HasReplica s event
  pub worker_there : MatchOption (worker_of event) (Unit {0}) (IsWorker s event)
  pub message_there : MatchOption (message_of event) (Unit {0}) (IsMessage s)

-- what the fault names does not exist; the replica is checked first
abbrev pub IsMissing : Shape → Event → WorldFault → Type 0
IsMissing s event NoSuchReplica = ¬ HasReplica s event
IsMissing s event NoSuchWorker = HasReplica s event
    × MatchOption (worker_of event) ⊥ (λ w. ¬ IsWorker s event w)
IsMissing s event NoSuchFrame = HasReplica s event
    × MatchOption (message_of event) ⊥ (λ k. ¬ IsMessage s k)
IsMissing s event (Node why) = ⊥

-- the node of the replica i gives this reply to the call, and of the world nothing but that
-- replica's pool may have changed
abbrev pub NodeReplies : ModelState → ℕ → Call → Reply → ModelState → Type 0
NodeReplies old i call reply new =
    (pool : PoolView) × Step (replica_node old i) call reply (record (replica_node old i) { pool = pool })
    × (new ≡ set_pool old i pool)

-- the call that an event of a pool makes of the node of its replica; the other events make none
abbrev pub call_of : Event → Option Call
call_of (Pin i page) = Some (call.Pin page)
call_of (Unpin i slot) = Some (call.Unpin slot)
call_of (Put i slot at bytes) = Some (call.Write slot at bytes)
call_of (Get i slot at len) = Some (call.Read slot at len)
call_of (Victim i) = Some call.Victim
call_of (Warm i n) = Some (call.WarmList n)
call_of (WarmStep i) = Some call.WarmStep
call_of event = None

-- the reply of the node that becomes this answer
abbrev pub reply_of : Answer → Option Reply
reply_of Done = Some reply.Done
reply_of (Pinned slot) = Some (reply.Pinned slot)
reply_of (Bytes bytes) = Some (reply.Bytes bytes)
reply_of (Page page) = Some (reply.Page page)
reply_of (Pages pages) = Some (reply.Pages pages)
reply_of (Loaded page) = Some (reply.Loaded page)
reply_of (Refused (Node why)) = Some (reply.Refused why)
reply_of answer = None

-- there is a call and a reply, and the node of the replica i gives this reply to the call
abbrev pub SomeNodeReplies : ModelState → ℕ → Option Call → Option Reply → ModelState → Type 0
SomeNodeReplies old i (Some call) (Some reply) new = NodeReplies old i call reply new
SomeNodeReplies old i call reply new = ⊥

-- why an event is refused though everything that it names exists, and what has then changed: an
-- allocation failed, or the node refuses the call
abbrev pub RefusesEvent : ModelState → Event → NodeFault → ModelState → Type 0
RefusesEvent old (Restart i) why new = NodeReplies old i call.Restart (reply.Refused why) new
RefusesEvent old (Refer i w page time) Memory new =
    (old.capacity ≤ length (pending (replica old (index_of_number i)) (index_of_number w)))
    × (new ≡ old)
RefusesEvent old (Flush i w) Memory new = new ≡ old
RefusesEvent old (Send i bucket after) Memory new = new ≡ old
RefusesEvent old (Offer i) Memory new = new ≡ old
RefusesEvent old (Deliver j k) Memory new = new ≡ old
RefusesEvent old (Warm i n) Memory new = new ≡ old
RefusesEvent old (Show i) Memory new = new ≡ old
RefusesEvent old event why new =
    SomeNodeReplies old (replica_of event) (call_of event) (Some (reply.Refused why)) new

-- when an event is refused with this fault, and what has then changed: a missing replica, worker or
-- message comes before all other faults
abbrev pub IsRefused : ModelState → Event → WorldFault → ModelState → Type 0
IsRefused old event (Node why) new = IsNamed (shape old) event × RefusesEvent old event why new
IsRefused old event fault new = IsMissing (shape old) event fault × (new ≡ old)

-- the replica j receives a message: it takes in the message's references, and its answers are
-- numbered after the messages so far
pub record Delivered (old : ModelState) (j : ℕ) (kept : MessageRecord) (count first : ℕ)
    (new : ModelState) : Type 0 where
  pub added : List MessageRecord
  pub answers : AreAnswers j (reach_after (reach_of old j) kept) kept added
  pub many : count ≡ length added
  pub from : first ≡ if count == 0 then 0 else length old.records + 1
  pub becomes : new ≡ add_records (set_replica old (index_of_number j)
      (record (replica old (index_of_number j)) { reach = reach_after (reach_of old j) kept }))
      added

-- the reference that a worker of replica i makes: the page, stamped with the time and the replica
abbrev pub stamped : ℕ → PageId → ℕ → Reference
stamped i page time = record { page = page; stamp = record { time = time; replica = i } }

-- The effect of an event that is not refused; an event of a pool has the effect of its call. The
-- warm-up list is over all references that reached the replica.
abbrev pub Effect : ModelState → Event → Answer → ModelState → Type 0
Effect old (Refer i w page time) Done new =
    new ≡ set_replica old (index_of_number i)
    (referred old.capacity (index_of_number w) (stamped i page time)
    (replica old (index_of_number i)))
Effect old (Flush i w) Done new =
    new ≡ set_replica old (index_of_number i)
    (flushed (index_of_number w) (replica old (index_of_number i)))
Effect old (Send i bucket after) (FrameNo k) new =
    (k ≡ length new.records)
    × (new ≡ add_records old
    (References i (carried (reach_of old i) bucket after MAX_ENTRIES) ∷ []))
Effect old (Offer i) (FrameNo k) new =
    (k ≡ length new.records)
    × (new ≡ add_records old (Digests i (reach_of old i).horizon
    (digests_of (entries_of (history (reach_of old i)))) ∷ []))
Effect old (Deliver j k) (Took count first) new =
    Delivered old j (record_at old (index_of_number k)) count first new
Effect old (Warm i n) (Pages pages) new =
    (pages ≡ hottest_pages (reach_of old i) n) × (new ≡ old)
Effect old (Restart i) Done new =
    (pool : PoolView) × Emptied (pool_of old i) pool
    × (new ≡ set_replica old (index_of_number i)
    (restarted pool (replica old (index_of_number i))))
Effect old (Horizon i time) (Kept horizon) new =
    (horizon ≡ (reach_of new i).horizon)
    × (new ≡ set_replica old (index_of_number i)
    (raised_replica time (replica old (index_of_number i))))
Effect old (Show i) (Shown shown) new =
    (shown ≡ history (reach_of old i)) × (new ≡ old)
Effect old event answer new =
    SomeNodeReplies old (replica_of event) (call_of event) (reply_of answer) new

-- The transition relation: from old, the event may get this answer and lead to new.
abbrev pub Next : ModelState → Event → Answer → ModelState → Type 0
Next old event (Refused fault) new = IsRefused old event fault new
Next old event answer new = IsNamed (shape old) event × Effect old event answer new

-- From old, the events, one after another, may get these answers and lead to new.
abbrev pub Run : ModelState → List Event → List Answer → ModelState → Type 0
Run old [] [] new = new ≡ old
Run old (event ∷ events) (answer ∷ answers) new = (mid : ModelState) × Next old event answer mid
    × Run mid events answers new
Run old [] (answer ∷ answers) new = ⊥
Run old (event ∷ events) [] new = ⊥

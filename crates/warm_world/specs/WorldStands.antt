-- A world stands for the references that reached its replicas.
use Rattle.std.specs.Prelude.{◌≡◌, ℕ, ◌+◌, ◌<◌, ◌≤◌, List, [], ◌∷◌, length, map, slice_index_or}
use Rattle.std.specs.Prelude.{Some}
use Rattle.warm_stamps.specs.declared.PageId.{PageId}
use Rattle.warm_stamps.specs.declared.Reference.{Reference}
use Rattle.warm_history.specs.Histories.{HistoryView, entries_of, history_of_entries, history}
use Rattle.warm_history.specs.References.{SameReferences}
use Rattle.warm_frames.specs.declared.message.Message.{Message}
use Rattle.warm_frames.specs.declared.message.Message.TheVariants.{Entries, Digest, Want}
use Rattle.warm_frames.specs.Encoding.{encoding, Encodes}
use Rattle.warm_rank.specs.Laws.{RankAlike, IsFarthest}
use Rattle.warm_refbuffer.specs.Buffered.{Buffered}
use Rattle.warm_pool.specs.View.{PoolView, IsAbsent, IsResident, unfixed_pages}
use Rattle.warm_gossip.specs.Step.{IsFailed}
use Rattle.warm_world.specs.declared.event.Event.{Event}
use Rattle.warm_world.specs.declared.event.Event.TheVariants.{Pin, Victim, WarmStep}
use Rattle.warm_world.specs.declared.event.Answer.{Answer}
use Rattle.warm_world.specs.declared.event.Answer.TheVariants.{Page}
use Rattle.warm_world.specs.Lists.{Pairwise, IsNumber, index_of_number}
use Rattle.warm_world.specs.Views.{ReplicaView, WorldView}
use Rattle.warm_world.specs.States.{ModelState, ReplicaState, MessageRecord, References, Digests}
use Rattle.warm_world.specs.States.{Request, pending, pool_of, reach_of, replica, set_replica}
use Rattle.warm_world.specs.Effects.{Next, Run, Shape}

-- a buffer that holds these references
abbrev pub buffered : ℕ → List Reference → Buffered
buffered capacity refs = record { refs = refs; capacity = capacity }

-- a replica, by its index, has the history of the references that reached it, the pool of the
-- model, and the pending references in its buffers
pub record ReplicaStands (capacity index : ℕ) (r : ReplicaView) (m : ReplicaState) : Type 0 where
  pub has_capacity : 0 < capacity
  pub node_is : r.node ≡ record { id = index + 1; history = history m.reach; pool = m.pool }
  pub buffers_are : r.buffers ≡ map (buffered capacity) m.pending

-- for every model state that a replica with this capacity stood for, it now stands for the changed
-- state
abbrev pub Becomes : ℕ → ReplicaView → ReplicaView → (ReplicaState → ReplicaState) → Type 0
Becomes capacity old new change =
    (index : ℕ) (m : ReplicaState) → ReplicaStands capacity index old m
    → ReplicaStands capacity index new (change m)

-- in every model state that a replica stands for, the buffer of the worker is full
abbrev pub IsBufferFull : ReplicaView → ℕ → Type 0
IsBufferFull r worker =
    (capacity index : ℕ) (m : ReplicaState) → ReplicaStands capacity index r m
    → capacity ≤ length (pending m worker)

-- the message that a record is of: from its sender, with the horizon, the page histories of the
-- references that it brings, or digests, or a request
abbrev pub message_kept : MessageRecord → Message
message_kept (References sender refs) = Entries sender refs.horizon (entries_of (history refs))
message_kept (Digests sender horizon digests) = Digest sender horizon digests
message_kept (Request sender horizon request) = Want sender horizon request

-- the bytes of a stored message encode its record's message, and decoding them gives it
pub record EncodesRecord (bytes : List ℕ) (kept : MessageRecord) : Type 0 where
  pub encodes : Encodes bytes (message_kept kept)
  pub exact : bytes ≡ encoding (message_kept kept)

-- the world stands for the model state: replica by replica, and message by message
pub record WorldStands (w : WorldView) (m : ModelState) : Type 0 where
  pub replicas : Pairwise (ReplicaStands m.capacity) w.replicas m.replicas
  pub messages : Pairwise (λ _ bytes kept. EncodesRecord bytes kept) w.messages m.records

-- what an event can name in a world
abbrev pub view_shape : WorldView → Shape
view_shape w = record {
  workers = map (λ r. length r.buffers) w.replicas;
  messages = length w.messages;
}

-- the event leads to a state that the world stands for
pub record Stepped (old : ModelState) (event : Event) (answer : Answer) (w : WorldView)
    : Type 0 where
  pub new : ModelState
  pub next : Next old event answer new
  pub stands : WorldStands w new

-- for every model state that the world stood for, the event with this answer leads from it to one
-- that the world now stands for
abbrev pub Steps : WorldView → Event → Answer → WorldView → Type 0
Steps old event answer new = (m : ModelState) → WorldStands old m → Stepped m event answer new

-- for every model state that the world stood for, it now stands for that state with one more
-- failure counted at a device of one replica, and nothing else changed
abbrev pub CountsFailure : WorldView → WorldView → Type 0
CountsFailure old new = (m : ModelState) → WorldStands old m
    → (k : ℕ) × (pool : PoolView) × (k < length m.replicas) × IsFailed (replica m k).pool pool
    × WorldStands new (set_replica m k (record (replica m k) { pool = pool }))

-- the history of the replica of a number
abbrev pub history_of : WorldView → ℕ → HistoryView
history_of w i =
    slice_index_or (map (λ r. r.node.history) w.replicas) (index_of_number i)
    (history_of_entries [])

-- each replica's history is exactly the two latest stamps, not older than its horizon, of every
-- page among the references that reached it
abbrev pub HistoriesAreExact : WorldView → ModelState → Type 0
HistoriesAreExact w m = (i : ℕ) → IsNumber i (length m.replicas)
    → history_of w i ≡ history (reach_of m i)

-- two histories have the same entries, and the references that reached the replicas rank pages
-- alike: any two pages leave in the same order, and the warm-up lists of any length are the same
pub record Agree (w : WorldView) (m : ModelState) (i j : ℕ) : Type 0 where
  pub histories : entries_of (history_of w i) ≡ entries_of (history_of w j)
  pub ranking : RankAlike (reach_of m i) (reach_of m j)

-- replicas that keep the same references agree
abbrev pub ReplicasAgree : WorldView → ModelState → Type 0
ReplicasAgree w m = (i j : ℕ) → IsNumber i (length m.replicas) → IsNumber j (length m.replicas)
    → SameReferences (reach_of m i) (reach_of m j) → Agree w m i j

-- the page is in a frame of the replica's pool before, and in none after
pub record IsEvictedFrom (i : ℕ) (old new : ModelState) (page : PageId) : Type 0 where
  pub before : IsResident (pool_of old i) page
  pub after : IsAbsent (pool_of new i) page

-- the event may load a page into the replica's pool: a pin, or a step of the warm-up
abbrev pub MayLoad : ℕ → Event → Type 0
MayLoad i (Pin j page) = j ≡ i
MayLoad i (WarmStep j) = j ≡ i
MayLoad i event = ⊥

-- the page is an unpinned resident page of the replica, and none of these has a greater backward
-- 2-distance over all references that reached the replica
abbrev pub IsRightVictim : ℕ → ModelState → PageId → Type 0
IsRightVictim i m page = IsFarthest (reach_of m i) (unfixed_pages (pool_of m i)) page

-- The page that Victim names, and each page that is evicted for one that is pinned or warmed up, is
-- an unpinned resident page of greatest backward 2-distance.
pub record VictimsAreRight (old : ModelState) (event : Event) (answer : Answer)
    (new : ModelState) : Type 0 where
  pub named : (i : ℕ) (page : PageId) → event ≡ Victim i → answer ≡ Page (Some page)
      → IsRightVictim i old page
  pub left : (i : ℕ) (page : PageId) → MayLoad i event → IsEvictedFrom i old new page
      → IsRightVictim i old page

-- at each event of a run, the page that Victim names, and each page that is evicted for one that is
-- pinned or warmed up, is an unpinned resident page of greatest backward 2-distance
abbrev pub EachVictim : (old : ModelState) (events : List Event) (answers : List Answer)
    (new : ModelState) → Run old events answers new → Type 0
EachVictim old [] [] new run = Unit {0}
EachVictim old (event ∷ events) (answer ∷ answers) new run =
    VictimsAreRight old event answer run.0 × EachVictim run.0 events answers new run.2
EachVictim old [] (answer ∷ answers) new run = ⊥
EachVictim old (event ∷ events) [] new run = ⊥

-- The events, one after another, got these answers and led to a state that the world stands for; so
-- each history is exact, replicas that keep the same references agree, and each victim is a page of
-- greatest backward 2-distance.
pub record Ran (old : ModelState) (events : List Event) (answers : List Answer) (w : WorldView)
    : Type 0 where
  pub new : ModelState
  pub run : Run old events answers new
  pub stands : WorldStands w new
  pub exact : HistoriesAreExact w new
  pub agree : ReplicasAgree w new
  pub victims : EachVictim old events answers new run

-- for every model state that the world stood for, the events with these answers lead from it to one
-- that the world now stands for
abbrev pub FollowsModel : WorldView → List Event → List Answer → WorldView → Type 0
FollowsModel old events answers new = (m : ModelState) → WorldStands old m
    → Ran m events answers new

-- Laws over runs

-- in the state, the references that reached two replicas have the same two latest stamps of each
-- page, and rank pages alike
pub record Alike (m : ModelState) (i j : ℕ) : Type 0 where
  pub histories : entries_of (history (reach_of m i)) ≡ entries_of (history (reach_of m j))
  pub ranking : RankAlike (reach_of m i) (reach_of m j)

-- each victim of the run is right, and in the state that it leads to, replicas that keep the same
-- references agree
pub record IsRightRun (old : ModelState) (events : List Event) (answers : List Answer)
    (new : ModelState) (run : Run old events answers new) : Type 0 where
  pub agree : (i j : ℕ) → SameReferences (reach_of new i) (reach_of new j) → Alike new i j
  pub victims : EachVictim old events answers new run

-- every run is right
abbrev pub RunsAreRight : Type 0
RunsAreRight =
    (old : ModelState) (events : List Event) (answers : List Answer) (new : ModelState)
    (run : Run old events answers new)
    → IsRightRun old events answers new run

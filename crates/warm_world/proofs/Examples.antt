-- Worked examples: the effect of events on the lists of references, computed.
use Rattle.std.proofs.Common.{◌≡◌, ℕ, [], ◌∷◌, List, Option, None, refl}
use Rattle.warm_stamps.specs.declared.Reference.{Reference}
use Rattle.warm_history.specs.Entry.{Entry}
use Rattle.warm_history.specs.PageHist.TheVariants.{Once, Twice}
use Rattle.warm_history.specs.ReferenceSets.{set_of_list, with_horizon}
use Rattle.warm_history.specs.Histories.{HistoryView, history_of_entries, history}
use Rattle.warm_history.specs.Carried.{carried}
use Rattle.warm_world.specs.States.{ModelState, ReplicaState, References, Request, Digests, no_pool, raised_replica, referred, flushed, restarted}
use Rattle.warm_world.specs.GossipAnswers.{bucket_records, reach_after}
use Rattle.warm_world.specs.Effects.{NodeReplies, Effect, RefusesEvent, stamped}
use Rattle.warm_world.specs.declared.event.Event.TheVariants.{Pin, Unpin, Put, Get, Victim, WarmStep, Horizon}
use Rattle.warm_world.specs.declared.event.Answer.TheVariants.{Done, Pinned, Bytes, Page, Loaded}
use Rattle.warm_gossip.specs.declared.call.Call.TheVariants as call
use Rattle.warm_gossip.specs.declared.call.Reply.TheVariants as reply
use Rattle.warm_gossip.specs.declared.fault.NodeFault.{NodeFault}
use Rattle.warm_pool.specs.declared.slot.Slot.{Slot}
use Rattle.warm_stamps.specs.declared.PageId.{PageId}

-- the page 0:1, referenced at a time at a replica
abbrev at : ℕ → ℕ → Reference
at time replica = stamped replica (record { dev = 0; no = 1 }) time

-- what is known of that page, its last stamp and the one before
abbrev known : Reference → Reference → Entry
known last prev = record {
  page = record { dev = 0; no = 1 };
  hist = Twice (record { last = last.stamp; prev = prev.stamp });
}

-- a replica of one worker
abbrev one_worker : List Reference → List Reference → ReplicaState
one_worker reach waiting = record {
  reach = set_of_list reach;
  pending = waiting ∷ [];
  pool = no_pool;
}

-- a buffer of two takes the second reference, and is moved before it takes the third
second_waits : referred 2 0 (at 20 1) (one_worker [] (at 10 1 ∷ []))
    ≡ one_worker [] (at 10 1 ∷ at 20 1 ∷ [])
second_waits = refl

third_moves_two : referred 2 0 (at 30 1) (one_worker [] (at 10 1 ∷ at 20 1 ∷ []))
    ≡ one_worker (at 10 1 ∷ at 20 1 ∷ []) (at 30 1 ∷ [])
third_moves_two = refl

-- what waits reaches the replica at the flush
flush_moves : flushed 0 (one_worker (at 10 1 ∷ []) (at 20 1 ∷ []))
    ≡ one_worker (at 10 1 ∷ at 20 1 ∷ []) []
flush_moves = refl

-- a restart forgets what reached the replica and what waits
restart_forgets : restarted no_pool (one_worker (at 10 1 ∷ []) (at 20 1 ∷ [])) ≡ one_worker [] []
restart_forgets = refl

-- a message of bucket 1 brings all references to the page 0:1, not only the two that its entry
-- shows
all_are_carried : carried (set_of_list (at 10 1 ∷ at 20 1 ∷ at 30 1 ∷ [])) 1 None 1000
    ≡ set_of_list (at 10 1 ∷ at 20 1 ∷ at 30 1 ∷ [])
all_are_carried = refl

-- one replica has the page at 10 and 20, the other at 15 and 30: each delivered to the other, both
-- know 30@2 and 20@1
first_hears : history (reach_after (one_worker (at 10 1 ∷ at 20 1 ∷ []) []).reach
    (References 2 (set_of_list (at 15 2 ∷ at 30 2 ∷ []))))
    ≡ history_of_entries (known (at 30 2) (at 20 1) ∷ [])
unfolding history
first_hears = refl

second_hears : history
    (reach_after (one_worker (at 15 2 ∷ at 30 2 ∷ []) []).reach
    (References 1 (set_of_list (at 10 1 ∷ at 20 1 ∷ []))))
    ≡ history_of_entries (known (at 30 2) (at 20 1) ∷ [])
unfolding history
second_hears = refl

-- after a restart a replica receives again what it had sent
receives_again : history
    (reach_after (restarted no_pool (one_worker (at 10 1 ∷ []) (at 20 1 ∷ []))).reach
    (References 2 (set_of_list (at 10 1 ∷ []))))
    ≡ history_of_entries ((let e : Entry = record {
      page = record { dev = 0; no = 1 };
      hist = Once (at 10 1).stamp;
    } in e) ∷ [])
unfolding history
receives_again = refl

-- what a replica sends of bucket 1, answering a request: one message, which brings both references
-- to the page 0:1
bucket_in_one_message : bucket_records 2 (set_of_list (at 10 1 ∷ at 20 1 ∷ [])) 1
    ≡ References 2 (set_of_list (at 10 1 ∷ at 20 1 ∷ [])) ∷ []
unfolding history
bucket_in_one_message = refl

-- of an empty bucket nothing is sent
empty_bucket_in_none : bucket_records 2 (set_of_list (at 10 1 ∷ [])) 3 ≡ []
unfolding history
empty_bucket_in_none = refl

-- a request without a horizon brings nothing, and references are taken in
request_brings_nothing : reach_after (set_of_list (at 10 1 ∷ [])) (Request 2 0 6)
    ≡ set_of_list (at 10 1 ∷ [])
request_brings_nothing = refl

references_are_heard : reach_after (set_of_list (at 10 1 ∷ []))
    (References 2 (set_of_list (at 20 2 ∷ []))) ≡ set_of_list (at 10 1 ∷ at 20 2 ∷ [])
references_are_heard = refl

-- ---- horizons

-- the history at a horizon
abbrev since_then : ℕ → List Entry → HistoryView
since_then horizon es = record { horizon = horizon; entries = es }

abbrev once : Reference → Entry
once last = record { page = record { dev = 0; no = 1 }; hist = Once last.stamp }

-- a replica has the page at 10 and 20: its horizon rises to 15, and 20 alone is left
raise_forgets : history (raised_replica 15 (one_worker (at 10 1 ∷ at 20 1 ∷ []) [])).reach
    ≡ since_then 15 (once (at 20 1) ∷ [])
unfolding history
raise_forgets = refl

-- what waits with an older stamp is dropped as it reaches the replica
older_is_dropped : history
    (flushed 0 (raised_replica 15 (one_worker (at 20 1 ∷ []) (at 12 1 ∷ [])))).reach
    ≡ since_then 15 (once (at 20 1) ∷ [])
unfolding history
older_is_dropped = refl

-- a lower time changes nothing
horizon_stays : raised_replica 3 (raised_replica 15 (one_worker [] []))
    ≡ raised_replica 15 (one_worker [] [])
horizon_stays = refl

-- a restart sets the horizon to 0
restart_lowers : restarted no_pool (raised_replica 15 (one_worker (at 20 1 ∷ []) []))
    ≡ one_worker [] []
restart_lowers = refl

-- one replica has the page at 8 and 9, the other at 20 with horizon 9: its message leaves 20 and 9
message_raises : history
    (reach_after (set_of_list (at 8 2 ∷ at 9 2 ∷ []))
    (References 1 (with_horizon 9 (set_of_list (at 20 1 ∷ [])))))
    ≡ since_then 9 (known (at 20 1) (at 9 2) ∷ [])
unfolding history
message_raises = refl

-- digests and a request bring their sender's horizon
digests_raise : history (reach_after (set_of_list (at 10 1 ∷ [])) (Digests 2 50 []))
    ≡ since_then 50 []
unfolding history
digests_raise = refl

request_raises : history (reach_after (set_of_list (at 10 1 ∷ [])) (Request 2 50 2))
    ≡ since_then 50 []
unfolding history
request_raises = refl

-- ---- events of a pool: each case of an effect and of a refusal, as the node's step

module _ (old new : ModelState) (i : ℕ) where
  pin_row : (page : PageId) (slot : Slot)
      → Effect old (Pin i page) (Pinned slot) new
      ≡ NodeReplies old i (call.Pin page) (reply.Pinned slot) new
  pin_row page slot = refl

  unpin_row : (slot : Slot)
      → Effect old (Unpin i slot) Done new ≡ NodeReplies old i (call.Unpin slot) reply.Done new
  unpin_row slot = refl

  put_row : (slot : Slot) (first : ℕ) (bytes : List ℕ)
      → Effect old (Put i slot first bytes) Done new
      ≡ NodeReplies old i (call.Write slot first bytes) reply.Done new
  put_row slot first bytes = refl

  get_row : (slot : Slot) (first len : ℕ) (bytes : List ℕ)
      → Effect old (Get i slot first len) (Bytes bytes) new
      ≡ NodeReplies old i (call.Read slot first len) (reply.Bytes bytes) new
  get_row slot first len bytes = refl

  victim_row : (victim : Option PageId)
      → Effect old (Victim i) (Page victim) new
      ≡ NodeReplies old i call.Victim (reply.Page victim) new
  victim_row victim = refl

  warm_step_row : (page : Option PageId)
      → Effect old (WarmStep i) (Loaded page) new
      ≡ NodeReplies old i call.WarmStep (reply.Loaded page) new
  warm_step_row page = refl

  pin_refused : (page : PageId) (why : NodeFault)
      → RefusesEvent old (Pin i page) why new
      ≡ NodeReplies old i (call.Pin page) (reply.Refused why) new
  pin_refused page why = refl

  victim_never_refused : (why : NodeFault) → RefusesEvent old (Victim i) why new → ⊥
  victim_never_refused why r = r.1

  horizon_never_refused : (time : ℕ) (why : NodeFault) → RefusesEvent old (Horizon i time) why new
      → ⊥
  horizon_never_refused time why r = r

  pin_gives_no_page : (page : PageId) (victim : Option PageId)
      → Effect old (Pin i page) (Page victim) new → ⊥
  pin_gives_no_page page victim r = r.1

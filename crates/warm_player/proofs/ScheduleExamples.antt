-- What schedules with horizons, and with page numbers of more than 32 bits, print: computed line by
-- line.
use Rattle.std.proofs.Common.{◌≡◌, true, inl, ◌<◌, ◌≤◌, ◌+◌, List, ℕ, [], ◌∷◌, ◌++◌, refl, arith}
use Rattle.std.specs.Fmt.{digits}
use Rattle.std.specs.Prelude.{codes}
use Rattle.warm_stamps.specs.declared.PageId.{PageId}
use Rattle.warm_stamps.specs.declared.Stamp.{Stamp}
use Rattle.warm_stamps.specs.declared.Reference.{Reference}
use Rattle.warm_history.specs.Histories.{history, history_of_entries_at}
use Rattle.warm_history.specs.ReferenceSets.{ReferenceSet}
use Rattle.warm_history.specs.Entry.{Entry}
use Rattle.warm_history.specs.PageHist.{PageHist}
use Rattle.warm_history.specs.PageHist.TheVariants.{Once, Twice}
use Rattle.warm_pool.specs.declared.fault.PoolFault.TheVariants.{NoPage}
use Rattle.warm_pool.specs.Retiring.{Emptied}
use Rattle.warm_pool.specs.View.{PoolView}
use Rattle.warm_peer.specs.Answers.{IsDiffering, requested_buckets}
use Rattle.warm_gossip.specs.declared.fault.NodeFault.TheVariants.{Pool}
use Rattle.warm_world.specs.Lists.{IsNumber}
use Rattle.warm_world.specs.States.{ModelState, ReplicaState, MessageRecord, References, Digests, Request, no_pool}
use Rattle.warm_world.specs.declared.event.Answer.TheVariants.{Done, Shown, FrameNo, Took, Kept, Refused}
use Rattle.warm_world.specs.declared.event.WorldFault.TheVariants.{Node}
use Rattle.warm_player.specs.Text.{words}
use Rattle.warm_player.specs.Fields.{number_up_to, page_of_word, number_field, page_field, after_field}
use Rattle.warm_player.specs.Grammar.{line_of, meaning, commands, refer_of, flush_of, send_of, deliver_of, pin_of, restart_of, horizon_of, show_of}
use Rattle.warm_player.specs.Outputs.{LineAnswered, Printed, PrintedFrom}

-- ---- a table of lines, each with what it prints

abbrev said : List (List ℕ × List ℕ) → List (List ℕ)
said [] = []
said (row ∷ rest) = row.0 ∷ said rest

abbrev answers : List (List ℕ × List ℕ) → List ℕ
answers [] = []
answers (row ∷ rest) = row.1 ++ answers rest

-- each line of the table is answered so
abbrev Rows : ModelState → ℕ → List (List ℕ × List ℕ) → ModelState → Type 0
Rows state number [] last = last ≡ state
Rows state number (row ∷ rest) last =
    (next : ModelState) × LineAnswered state number (meaning row.0) row.1 next
    × Rows next (number + 1) rest last

printed : (state last : ModelState) (number : ℕ) (table : List (List ℕ × List ℕ))
    → Rows state number table last → PrintedFrom state number (said table) (answers table) last
printed state last number [] rows = (refl, rows)
printed state last number (row ∷ rest) rows = (row.1, answers rest, rows.0, rows.1, printed rows.0 last (number + 1) rest rows.2, refl)

-- ---- states

abbrev page : ℕ → PageId
page n = record { dev = 0; no = n }

abbrev stamp : ℕ → ℕ → Stamp
stamp time i = record { time = time; replica = i }

abbrev at : ℕ → ℕ → ℕ → Reference
at n time i = record { page = page n; stamp = stamp time i }

abbrev entry : ℕ → PageHist → Entry
entry n hist = record { page = page n; hist = hist }

-- the references given to a replica, and its horizon
abbrev kept : ℕ → List Reference → ReferenceSet
kept horizon given = record { horizon = horizon; given = given }

-- a replica of one worker, in whose buffer these wait
abbrev one : PoolView → ReferenceSet → List Reference → ReplicaState
one pool reach waiting = record { reach = reach; pending = waiting ∷ []; pool = pool }

-- a replica without a pool, for which nothing waits
abbrev has : ℕ → List Reference → ReplicaState
has horizon given = one no_pool (kept horizon given) []

abbrev alone : ReferenceSet → List Reference → ModelState
alone reach waiting = record {
  capacity = 64;
  replicas = one no_pool reach waiting ∷ [];
  records = [];
}

abbrev both : ReplicaState → ReplicaState → List MessageRecord → ModelState
both first second records = record {
  capacity = 64;
  replicas = first ∷ second ∷ [];
  records = records;
}

number : (n count : ℕ) → 0 < n → n ≤ count → IsNumber n count
number n count some low = record { from_one = omega (arith, some); in_range = omega (arith, low) }

-- a pool without devices and frames is empty as it is
nothing_to_empty : Emptied no_pool no_pool
nothing_to_empty = record {
  unfixed = λ i. refl;
  becomes = refl;
  contents = record { honest = λ p has true. refl; resident = λ p before after. refl; absent = λ p other absent. refl; sized = λ p there. refl };
}

-- ---- a horizon forgets what is older, at once and later, and only rises; a restart sets it to 0

abbrev forgotten_table : List (List ℕ × List ℕ)
forgotten_table =
    (codes "ref 1 1 0:1 10", codes "ok\n")
    ∷ (codes "ref 1 1 0:1 20", codes "ok\n")
    ∷ (codes "ref 1 1 0:2 5", codes "ok\n")
    ∷ (codes "flush 1 1", codes "ok\n")
    ∷ (codes "horizon 1 15", codes "horizon 15\n")
    ∷ (codes "show 1", codes "0:1 last 20@1\nend 1\n")
    ∷ (codes "ref 1 1 0:1 12", codes "ok\n")
    ∷ (codes "flush 1 1", codes "ok\n")
    ∷ (codes "show 1", codes "0:1 last 20@1\nend 1\n")
    ∷ (codes "horizon 1 3", codes "horizon 15\n")
    ∷ (codes "restart 1", codes "ok\n")
    ∷ (codes "horizon 1 0", codes "horizon 0\n")
    ∷ []

forgotten : Printed (alone (kept 0 []) [])
    (codes "ref 1 1 0:1 10\nref 1 1 0:1 20\nref 1 1 0:2 5\nflush 1 1\nhorizon 1 15\nshow 1\nref 1 1 0:1 12\nflush 1 1\nshow 1\nhorizon 1 3\nrestart 1\nhorizon 1 0")
    (codes "ok\nok\nok\nok\nhorizon 15\n0:1 last 20@1\nend 1\nok\nok\n0:1 last 20@1\nend 1\nhorizon 15\nok\nhorizon 0\n")
    (alone (kept 0 []) [])
unfolding meaning line_of commands words number_up_to page_of_word number_field page_field refer_of flush_of restart_of horizon_of show_of history digits
forgotten = printed (alone (kept 0 []) []) (alone (kept 0 []) []) 1 forgotten_table (
  alone (kept 0 []) (at 1 10 1 ∷ []),
  inl (Done, (record { replica_there = number 1 _ (omega arith) (omega arith); worker_there = number 1 _ (omega arith) (omega arith); message_there = tt }, refl), refl),
  (
    alone (kept 0 []) (at 1 10 1 ∷ at 1 20 1 ∷ []),
    inl (Done, (record { replica_there = number 1 _ (omega arith) (omega arith); worker_there = number 1 _ (omega arith) (omega arith); message_there = tt }, refl), refl),
    (
      alone (kept 0 []) (at 1 10 1 ∷ at 1 20 1 ∷ at 2 5 1 ∷ []),
      inl (Done, (record { replica_there = number 1 _ (omega arith) (omega arith); worker_there = number 1 _ (omega arith) (omega arith); message_there = tt }, refl), refl),
      (
        alone (kept 0 (at 1 10 1 ∷ at 1 20 1 ∷ at 2 5 1 ∷ [])) [],
        inl (Done, (record { replica_there = number 1 _ (omega arith) (omega arith); worker_there = number 1 _ (omega arith) (omega arith); message_there = tt }, refl), refl),
        (
          alone (kept 15 (at 1 10 1 ∷ at 1 20 1 ∷ at 2 5 1 ∷ [])) [],
          inl (Kept 15, (record { replica_there = number 1 _ (omega arith) (omega arith); worker_there = tt; message_there = tt }, (refl, refl)), refl),
          (
            alone (kept 15 (at 1 10 1 ∷ at 1 20 1 ∷ at 2 5 1 ∷ [])) [],
            inl (Shown (history_of_entries_at 15 (entry 1 (Once (stamp 20 1)) ∷ [])), (record { replica_there = number 1 _ (omega arith) (omega arith); worker_there = tt; message_there = tt }, (refl, refl)), refl),
            (
              alone (kept 15 (at 1 10 1 ∷ at 1 20 1 ∷ at 2 5 1 ∷ [])) (at 1 12 1 ∷ []),
              inl (Done, (record { replica_there = number 1 _ (omega arith) (omega arith); worker_there = number 1 _ (omega arith) (omega arith); message_there = tt }, refl), refl),
              (
                alone (kept 15 (at 1 10 1 ∷ at 1 20 1 ∷ at 2 5 1 ∷ at 1 12 1 ∷ [])) [],
                inl (Done, (record { replica_there = number 1 _ (omega arith) (omega arith); worker_there = number 1 _ (omega arith) (omega arith); message_there = tt }, refl), refl),
                (
                  alone (kept 15 (at 1 10 1 ∷ at 1 20 1 ∷ at 2 5 1 ∷ at 1 12 1 ∷ [])) [],
                  inl (Shown (history_of_entries_at 15 (entry 1 (Once (stamp 20 1)) ∷ [])), (record { replica_there = number 1 _ (omega arith) (omega arith); worker_there = tt; message_there = tt }, (refl, refl)), refl),
                  (
                    alone (kept 15 (at 1 10 1 ∷ at 1 20 1 ∷ at 2 5 1 ∷ at 1 12 1 ∷ [])) [],
                    inl (Kept 15, (record { replica_there = number 1 _ (omega arith) (omega arith); worker_there = tt; message_there = tt }, (refl, refl)), refl),
                    (
                      alone (kept 0 []) [],
                      inl (Done, (record { replica_there = number 1 _ (omega arith) (omega arith); worker_there = tt; message_there = tt }, (no_pool, nothing_to_empty, refl)), refl),
                      (
                        alone (kept 0 []) [],
                        inl (Kept 0, (record { replica_there = number 1 _ (omega arith) (omega arith); worker_there = tt; message_there = tt }, (refl, refl)), refl),
                        refl,
                      ),
                    ),
                  ),
                ),
              ),
            ),
          ),
        ),
      ),
    ),
  ),
)

-- ---- a frame brings its sender's horizon: replica 2 has the page at 8 and 9, replica 1 has it at
-- 20

abbrev newer_frame : MessageRecord
newer_frame = References 1 (kept 9 (at 1 20 1 ∷ []))

abbrev brought_table : List (List ℕ × List ℕ)
brought_table =
    (codes "horizon 1 9", codes "horizon 9\n")
    ∷ (codes "send 1 1", codes "frame 1\n")
    ∷ (codes "deliver 2 1", codes "took 0\n")
    ∷ (codes "show 2", codes "0:1 last 20@1 prev 9@2\nend 1\n")
    ∷ (codes "horizon 2 0", codes "horizon 9\n")
    ∷ []

brought : Printed (both (has 0 (at 1 20 1 ∷ [])) (has 0 (at 1 8 2 ∷ at 1 9 2 ∷ [])) [])
    (codes "horizon 1 9\nsend 1 1\ndeliver 2 1\nshow 2\nhorizon 2 0")
    (codes "horizon 9\nframe 1\ntook 0\n0:1 last 20@1 prev 9@2\nend 1\nhorizon 9\n")
    (both (has 9 (at 1 20 1 ∷ [])) (has 9 (at 1 8 2 ∷ at 1 9 2 ∷ at 1 20 1 ∷ []))
    (newer_frame ∷ []))
unfolding meaning line_of commands words number_up_to number_field after_field send_of deliver_of horizon_of show_of history digits
brought = printed (both (has 0 (at 1 20 1 ∷ [])) (has 0 (at 1 8 2 ∷ at 1 9 2 ∷ [])) []) (both (has 9 (at 1 20 1 ∷ [])) (has 9 (at 1 8 2 ∷ at 1 9 2 ∷ at 1 20 1 ∷ [])) (newer_frame ∷ [])) 1 brought_table (
  both (has 9 (at 1 20 1 ∷ [])) (has 0 (at 1 8 2 ∷ at 1 9 2 ∷ [])) [],
  inl (Kept 9, (record { replica_there = number 1 _ (omega arith) (omega arith); worker_there = tt; message_there = tt }, (refl, refl)), refl),
  (
    both (has 9 (at 1 20 1 ∷ [])) (has 0 (at 1 8 2 ∷ at 1 9 2 ∷ [])) (newer_frame ∷ []),
    inl (FrameNo 1, (record { replica_there = number 1 _ (omega arith) (omega arith); worker_there = tt; message_there = tt }, (refl, refl)), refl),
    (
      both (has 9 (at 1 20 1 ∷ [])) (has 9 (at 1 8 2 ∷ at 1 9 2 ∷ at 1 20 1 ∷ [])) (newer_frame ∷ []),
      inl (Took 0 0, (record { replica_there = number 2 _ (omega arith) (omega arith); worker_there = tt; message_there = number 1 _ (omega arith) (omega arith) }, record { added = []; answers = refl; many = refl; from = refl; becomes = refl }), refl),
      (
        both (has 9 (at 1 20 1 ∷ [])) (has 9 (at 1 8 2 ∷ at 1 9 2 ∷ at 1 20 1 ∷ [])) (newer_frame ∷ []),
        inl (Shown (history_of_entries_at 9 (entry 1 (Twice (record { last = stamp 20 1; prev = stamp 9 2 })) ∷ [])), (record { replica_there = number 2 _ (omega arith) (omega arith); worker_there = tt; message_there = tt }, (refl, refl)), refl),
        (
          both (has 9 (at 1 20 1 ∷ [])) (has 9 (at 1 8 2 ∷ at 1 9 2 ∷ at 1 20 1 ∷ [])) (newer_frame ∷ []),
          inl (Kept 9, (record { replica_there = number 2 _ (omega arith) (omega arith); worker_there = tt; message_there = tt }, (refl, refl)), refl),
          refl,
        ),
      ),
    ),
  ),
)

-- ---- what a frame brought is forgotten too

abbrev entry_frame : MessageRecord
entry_frame = References 1 (kept 0 (at 1 10 1 ∷ []))

abbrev sent_then_forgotten_table : List (List ℕ × List ℕ)
sent_then_forgotten_table =
    (codes "ref 1 1 0:1 10", codes "ok\n")
    ∷ (codes "flush 1 1", codes "ok\n")
    ∷ (codes "send 1 1", codes "frame 1\n")
    ∷ (codes "deliver 2 1", codes "took 0\n")
    ∷ (codes "horizon 2 50", codes "horizon 50\n")
    ∷ (codes "show 2", codes "end 0\n")
    ∷ []

sent_then_forgotten : Printed (both (has 0 []) (has 0 []) [])
    (codes "ref 1 1 0:1 10\nflush 1 1\nsend 1 1\ndeliver 2 1\nhorizon 2 50\nshow 2")
    (codes "ok\nok\nframe 1\ntook 0\nhorizon 50\nend 0\n")
    (both (has 0 (at 1 10 1 ∷ [])) (has 50 (at 1 10 1 ∷ [])) (entry_frame ∷ []))
unfolding meaning line_of commands words number_up_to page_of_word number_field page_field after_field refer_of flush_of send_of deliver_of horizon_of show_of history digits
sent_then_forgotten = printed (both (has 0 []) (has 0 []) []) (both (has 0 (at 1 10 1 ∷ [])) (has 50 (at 1 10 1 ∷ [])) (entry_frame ∷ [])) 1 sent_then_forgotten_table (
  both (one no_pool (kept 0 []) (at 1 10 1 ∷ [])) (has 0 []) [],
  inl (Done, (record { replica_there = number 1 _ (omega arith) (omega arith); worker_there = number 1 _ (omega arith) (omega arith); message_there = tt }, refl), refl),
  (
    both (has 0 (at 1 10 1 ∷ [])) (has 0 []) [],
    inl (Done, (record { replica_there = number 1 _ (omega arith) (omega arith); worker_there = number 1 _ (omega arith) (omega arith); message_there = tt }, refl), refl),
    (
      both (has 0 (at 1 10 1 ∷ [])) (has 0 []) (entry_frame ∷ []),
      inl (FrameNo 1, (record { replica_there = number 1 _ (omega arith) (omega arith); worker_there = tt; message_there = tt }, (refl, refl)), refl),
      (
        both (has 0 (at 1 10 1 ∷ [])) (has 0 (at 1 10 1 ∷ [])) (entry_frame ∷ []),
        inl (Took 0 0, (record { replica_there = number 2 _ (omega arith) (omega arith); worker_there = tt; message_there = number 1 _ (omega arith) (omega arith) }, record { added = []; answers = refl; many = refl; from = refl; becomes = refl }), refl),
        (
          both (has 0 (at 1 10 1 ∷ [])) (has 50 (at 1 10 1 ∷ [])) (entry_frame ∷ []),
          inl (Kept 50, (record { replica_there = number 2 _ (omega arith) (omega arith); worker_there = tt; message_there = tt }, (refl, refl)), refl),
          (
            both (has 0 (at 1 10 1 ∷ [])) (has 50 (at 1 10 1 ∷ [])) (entry_frame ∷ []),
            inl (Shown (history_of_entries_at 50 []), (record { replica_there = number 2 _ (omega arith) (omega arith); worker_there = tt; message_there = tt }, (refl, refl)), refl),
            refl,
          ),
        ),
      ),
    ),
  ),
)

-- ---- Digests and a request bring a horizon too. Replica 1 then sends its digests, which differ
-- from those of nothing in bucket 1 alone: replica 2 has nothing to send and requests that bucket,
-- and replica 1, which receives the horizon with the request, forgets the page.

abbrev request_frame : MessageRecord
request_frame = Request 2 50 2

abbrev requested_table : List (List ℕ × List ℕ)
requested_table =
    (codes "deliver 2 2", codes "took 1 from 3\n")
    ∷ (codes "deliver 1 3", codes "took 0\n")
    ∷ (codes "show 1", codes "end 0\n")
    ∷ (codes "horizon 1 0", codes "horizon 50\n")
    ∷ []

requested : (digests : List (List ℕ)) → IsDiffering digests (history_of_entries_at 50 []) 2
    → Printed (both (has 0 (at 1 10 1 ∷ [])) (has 50 (at 1 10 1 ∷ []))
    (entry_frame ∷ Digests 1 0 digests ∷ []))
    (codes "deliver 2 2\ndeliver 1 3\nshow 1\nhorizon 1 0")
    (codes "took 1 from 3\ntook 0\nend 0\nhorizon 50\n")
    (both (has 50 (at 1 10 1 ∷ [])) (has 50 (at 1 10 1 ∷ []))
    (entry_frame ∷ Digests 1 0 digests ∷ request_frame ∷ []))
unfolding meaning line_of commands words number_up_to number_field deliver_of horizon_of show_of history requested_buckets digits
requested digests differ = printed (both (has 0 (at 1 10 1 ∷ [])) (has 50 (at 1 10 1 ∷ [])) (entry_frame ∷ Digests 1 0 digests ∷ [])) (both (has 50 (at 1 10 1 ∷ [])) (has 50 (at 1 10 1 ∷ [])) (entry_frame ∷ Digests 1 0 digests ∷ request_frame ∷ [])) 1 requested_table (
  both (has 0 (at 1 10 1 ∷ [])) (has 50 (at 1 10 1 ∷ [])) (entry_frame ∷ Digests 1 0 digests ∷ request_frame ∷ []),
  inl (Took 1 3, (record { replica_there = number 2 _ (omega arith) (omega arith); worker_there = tt; message_there = number 2 _ (omega arith) (omega arith) }, record { added = request_frame ∷ []; answers = (2, omega arith, differ, refl); many = refl; from = refl; becomes = refl }), refl),
  (
    both (has 50 (at 1 10 1 ∷ [])) (has 50 (at 1 10 1 ∷ [])) (entry_frame ∷ Digests 1 0 digests ∷ request_frame ∷ []),
    inl (Took 0 0, (record { replica_there = number 1 _ (omega arith) (omega arith); worker_there = tt; message_there = number 3 _ (omega arith) (omega arith) }, record { added = []; answers = refl; many = refl; from = refl; becomes = refl }), refl),
    (
      both (has 50 (at 1 10 1 ∷ [])) (has 50 (at 1 10 1 ∷ [])) (entry_frame ∷ Digests 1 0 digests ∷ request_frame ∷ []),
      inl (Shown (history_of_entries_at 50 []), (record { replica_there = number 1 _ (omega arith) (omega arith); worker_there = tt; message_there = tt }, (refl, refl)), refl),
      (
        both (has 50 (at 1 10 1 ∷ [])) (has 50 (at 1 10 1 ∷ [])) (entry_frame ∷ Digests 1 0 digests ∷ request_frame ∷ []),
        inl (Kept 50, (record { replica_there = number 1 _ (omega arith) (omega arith); worker_there = tt; message_there = tt }, (refl, refl)), refl),
        refl,
      ),
    ),
  ),
)

-- ---- a page number of more than 32 bits: it is referenced, sent and shown, and no device of 256
-- pages has it

-- a pool without a frame over one device of 256 pages
abbrev small : PoolView
small = record {
  page_size = 16;
  devices = record { pages = 256; honest = true; unfailing = true } ∷ [];
  frames = [];
  contents = [];
  failures = 0 ∷ [];
}

abbrev knows : List Reference → ReplicaState
knows given = one small (kept 0 given) []

abbrev wide_reference : Reference
wide_reference = at 4294967296 5 1

abbrev wide_frame : MessageRecord
wide_frame = References 1 (kept 0 (wide_reference ∷ []))

abbrev wide_table : List (List ℕ × List ℕ)
wide_table =
    (codes "ref 1 1 0:4294967296 5", codes "ok\n")
    ∷ (codes "flush 1 1", codes "ok\n")
    ∷ (codes "send 1 0", codes "frame 1\n")
    ∷ (codes "deliver 2 1", codes "took 0\n")
    ∷ (codes "show 2", codes "0:4294967296 last 5@1\nend 1\n")
    ∷ (codes "pin 1 0:4294967296", codes "refused 5 NoPage\n")
    ∷ []

wide : Printed (both (knows []) (knows []) [])
    (codes "ref 1 1 0:4294967296 5\nflush 1 1\nsend 1 0\ndeliver 2 1\nshow 2\npin 1 0:4294967296")
    (codes "ok\nok\nframe 1\ntook 0\n0:4294967296 last 5@1\nend 1\nrefused 5 NoPage\n")
    (both (knows (wide_reference ∷ [])) (knows (wide_reference ∷ [])) (wide_frame ∷ []))
unfolding meaning line_of commands words number_up_to page_of_word number_field page_field after_field refer_of flush_of send_of deliver_of pin_of show_of history digits
wide = printed (both (knows []) (knows []) []) (both (knows (wide_reference ∷ [])) (knows (wide_reference ∷ [])) (wide_frame ∷ [])) 1 wide_table (
  both (one small (kept 0 []) (wide_reference ∷ [])) (knows []) [],
  inl (Done, (record { replica_there = number 1 _ (omega arith) (omega arith); worker_there = number 1 _ (omega arith) (omega arith); message_there = tt }, refl), refl),
  (
    both (knows (wide_reference ∷ [])) (knows []) [],
    inl (Done, (record { replica_there = number 1 _ (omega arith) (omega arith); worker_there = number 1 _ (omega arith) (omega arith); message_there = tt }, refl), refl),
    (
      both (knows (wide_reference ∷ [])) (knows []) (wide_frame ∷ []),
      inl (FrameNo 1, (record { replica_there = number 1 _ (omega arith) (omega arith); worker_there = tt; message_there = tt }, (refl, refl)), refl),
      (
        both (knows (wide_reference ∷ [])) (knows (wide_reference ∷ [])) (wide_frame ∷ []),
        inl (Took 0 0, (record { replica_there = number 2 _ (omega arith) (omega arith); worker_there = tt; message_there = number 1 _ (omega arith) (omega arith) }, record { added = []; answers = refl; many = refl; from = refl; becomes = refl }), refl),
        (
          both (knows (wide_reference ∷ [])) (knows (wide_reference ∷ [])) (wide_frame ∷ []),
          inl (Shown (history_of_entries_at 0 (entry 4294967296 (Once (stamp 5 1)) ∷ [])), (record { replica_there = number 2 _ (omega arith) (omega arith); worker_there = tt; message_there = tt }, (refl, refl)), refl),
          (
            both (knows (wide_reference ∷ [])) (knows (wide_reference ∷ [])) (wide_frame ∷ []),
            inl (Refused (Node (Pool NoPage)), (record { replica_there = number 1 _ (omega arith) (omega arith); worker_there = tt; message_there = tt }, (small, (refl, (omega arith, omega arith, refl)), refl)), refl),
            refl,
          ),
        ),
      ),
    ),
  ),
)

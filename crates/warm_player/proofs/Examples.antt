-- The language and the answers, computed on lines and answers derived by hand.
use Rattle.std.proofs.Common.{◌≡◌, inl, ◌<◌, List, ℕ, [], ◌∷◌, Some, None, Err, refl, arith}
use Rattle.std.specs.Fmt.{digits}
use Rattle.std.specs.Prelude.{codes}
use Rattle.warm_stamps.specs.declared.PageId.{PageId}
use Rattle.warm_stamps.specs.declared.Stamp.{Stamp}
use Rattle.warm_stamps.specs.declared.Reference.{Reference}
use Rattle.warm_history.specs.Histories.{history_of_entries, history}
use Rattle.warm_world.specs.Lists.{IsNumber}
use Rattle.warm_history.specs.ReferenceSets.{set_of_list}
use Rattle.warm_pool.specs.declared.slot.Slot.{Slot}
use Rattle.warm_pool.specs.declared.fault.PoolFault.TheVariants.{NoDevice, NoPage, AllFixed, ReadFault, WriteBack, FixesFull, OutOfPage, Fixed, Fault}
use Rattle.warm_gossip.specs.declared.fault.NodeFault.TheVariants.{Memory, Pool, StaleSlot}
use Rattle.warm_world.specs.States.{ModelState, no_pool}
use Rattle.warm_player.specs.Outputs.{Printed}
use Rattle.warm_history.specs.PageHist.TheVariants.{Once, Twice}
use Rattle.warm_world.specs.declared.event.Event.TheVariants.{Refer, Flush, Send, Offer, Deliver, Pin, Unpin, Put, Get, Victim, Warm, WarmStep, Restart, Horizon, Show}
use Rattle.warm_world.specs.declared.event.Answer.TheVariants.{Done, Shown, FrameNo, Took, Pinned, Bytes, Page, Pages, Loaded, Kept, Refused}
use Rattle.warm_world.specs.declared.event.WorldFault.TheVariants.{Node, NoSuchReplica, NoSuchWorker, NoSuchFrame}
use Rattle.warm_player.specs.declared.parse.Line.TheVariants as meant
use Rattle.warm_player.specs.Text.{lines, words}
use Rattle.warm_player.specs.Fields.{number_up_to, page_of_word, slot_of_word, bytes_of_hex, number_field, page_field, after_field, slot_field, bytes_field}
use Rattle.warm_player.specs.Grammar.{line_of, meaning, commands, refer_of, flush_of, send_of, offer_of, deliver_of, pin_of, unpin_of, put_of, get_of, victim_of, warm_of, warmstep_of, restart_of, horizon_of, show_of}
use Rattle.warm_player.specs.Workers.{worker_request_in}
use Rattle.warm_player.specs.Answers.{answer_text}

abbrev page : ℕ → ℕ → PageId
page d n = record { dev = d; no = n }

abbrev stamp : ℕ → ℕ → Stamp
stamp t r = record { time = t; replica = r }

abbrev slot : ℕ → ℕ → Slot
slot s g = record { index = s; generation = g }

-- ---- lines

ref_line : line_of (codes "ref 1 2 0:1 10") ≡ Some (meant.Act (Refer 1 2 (page 0 1) 10))
unfolding line_of commands words number_up_to page_of_word number_field page_field refer_of
ref_line = refl

spaces_and_zeros : line_of (codes "  flush  001   2 ") ≡ Some (meant.Act (Flush 1 2))
unfolding line_of commands words number_up_to number_field flush_of
spaces_and_zeros = refl

send_line : line_of (codes "send 1 63") ≡ Some (meant.Act (Send 1 63 None))
unfolding line_of commands words number_up_to number_field after_field send_of
send_line = refl

send_after : line_of (codes "send 1 0 0:63936")
    ≡ Some (meant.Act (Send 1 0 (Some (page 0 63936))))
unfolding line_of commands words number_up_to page_of_word number_field after_field send_of
send_after = refl

no_such_bucket : line_of (codes "send 1 64") ≡ None
unfolding line_of commands words number_up_to number_field send_of
no_such_bucket = refl

greatest_frame : line_of (codes "deliver 65535 18446744073709551615")
    ≡ Some (meant.Act (Deliver 65535 18446744073709551615))
unfolding line_of commands words number_up_to number_field deliver_of
greatest_frame = refl

over_range : line_of (codes "deliver 1 18446744073709551616") ≡ None
unfolding line_of commands words number_up_to number_field deliver_of
over_range = refl

warm_line : line_of (codes "warm 1 3") ≡ Some (meant.Act (Warm 1 3))
unfolding line_of commands words number_up_to number_field warm_of
warm_line = refl

restart_line : line_of (codes "restart 1") ≡ Some (meant.Act (Restart 1))
unfolding line_of commands words number_up_to number_field restart_of
restart_line = refl

horizon_line : line_of (codes "horizon 1 15") ≡ Some (meant.Act (Horizon 1 15))
unfolding line_of commands words number_up_to number_field horizon_of
horizon_line = refl

greatest_horizon : line_of (codes "horizon 65535 18446744073709551615")
    ≡ Some (meant.Act (Horizon 65535 18446744073709551615))
unfolding line_of commands words number_up_to number_field horizon_of
greatest_horizon = refl

-- a replica and a time out of range, no time, and a word too many
no_horizons : (line_of (codes "horizon 65536 1") ≡ None)
    × (line_of (codes "horizon 1 18446744073709551616") ≡ None)
    × (line_of (codes "horizon 1") ≡ None) × (line_of (codes "horizon 1 15 1") ≡ None)
unfolding line_of commands words number_up_to number_field horizon_of
no_horizons = (refl, refl, refl, refl)

-- a horizon is not a request to a worker
horizon_of_no_worker : worker_request_in (line_of (codes "horizon 1 15")) ≡ Err (record {})
unfolding line_of commands words number_up_to number_field horizon_of
horizon_of_no_worker = refl

show_line : line_of (codes "show 3") ≡ Some (meant.Act (Show 3))
unfolding line_of commands words number_up_to number_field show_of
show_line = refl

offer_line : line_of (codes "offer 2") ≡ Some (meant.Act (Offer 2))
unfolding line_of commands words number_up_to number_field offer_of
offer_line = refl

pin_line : line_of (codes "pin 1 0:255") ≡ Some (meant.Act (Pin 1 (page 0 255)))
unfolding line_of commands words number_up_to page_of_word number_field page_field pin_of
pin_line = refl

greatest_page : line_of (codes "pin 1 65535:18446744073709551615")
    ≡ Some (meant.Act (Pin 1 (page 65535 18446744073709551615)))
unfolding line_of commands words number_up_to page_of_word number_field page_field pin_of
greatest_page = refl

-- a page number and a device out of range
no_such_pages : (line_of (codes "pin 1 0:18446744073709551616") ≡ None)
    × (line_of (codes "pin 1 65536:0") ≡ None)
unfolding line_of commands words number_up_to page_of_word number_field page_field pin_of
no_such_pages = (refl, refl)

unpin_line : line_of (codes "unpin 1 4294967295.18446744073709551615")
    ≡ Some (meant.Act (Unpin 1 (slot 4294967295 18446744073709551615)))
unfolding line_of commands words number_up_to slot_of_word number_field slot_field unpin_of
unpin_line = refl

-- no dot, two dots, and a frame out of range
no_slots : (line_of (codes "unpin 1 0") ≡ None) × (line_of (codes "unpin 1 0.1.2") ≡ None)
    × (line_of (codes "unpin 1 4294967296.1") ≡ None)
unfolding line_of commands words number_up_to slot_of_word number_field slot_field unpin_of
no_slots = (refl, refl, refl)

put_line : line_of (codes "put 1 0.1 15 CAfe09")
    ≡ Some (meant.Act (Put 1 (slot 0 1) 15 (202 ∷ 254 ∷ 9 ∷ [])))
unfolding line_of commands words number_up_to slot_of_word bytes_of_hex number_field slot_field bytes_field put_of
put_line = refl

-- an odd number of digits, none, another letter, and a word too many
no_bytes : (line_of (codes "put 1 0.1 0 CAF") ≡ None) × (line_of (codes "put 1 0.1 0 ") ≡ None)
    × (line_of (codes "put 1 0.1 0 CG") ≡ None) × (line_of (codes "put 1 0.1 0 CA FE") ≡ None)
unfolding line_of commands words number_up_to slot_of_word bytes_of_hex number_field slot_field bytes_field put_of
no_bytes = (refl, refl, refl, refl)

get_line : line_of (codes "get 1 0.1 16 4294967295")
    ≡ Some (meant.Act (Get 1 (slot 0 1) 16 4294967295))
unfolding line_of commands words number_up_to slot_of_word number_field slot_field get_of
get_line = refl

victim_line : line_of (codes "victim 3") ≡ Some (meant.Act (Victim 3))
unfolding line_of commands words number_up_to number_field victim_of
victim_line = refl

warmstep_line : line_of (codes "warmstep 3") ≡ Some (meant.Act (WarmStep 3))
unfolding line_of commands words number_up_to number_field warmstep_of
warmstep_line = refl

comment : line_of (codes " #show 3") ≡ Some meant.Nothing
unfolding line_of commands words
comment = refl

blank : line_of (codes "   ") ≡ Some meant.Nothing
unfolding line_of commands words
blank = refl

unknown : line_of (codes "foo") ≡ None
unfolding line_of commands words
unknown = refl

one_word_more : line_of (codes "show 3 #") ≡ None
unfolding line_of commands words number_up_to number_field show_of
one_word_more = refl

-- a CR is part of a word
foreign_end : line_of (codes "show 3\r") ≡ None
unfolding line_of commands words number_up_to number_field show_of
foreign_end = refl

two_lines : lines (codes "a\n\nb") ≡ codes "a" ∷ [] ∷ codes "b" ∷ []
two_lines = refl

-- ---- answers

shown : answer_text (Shown
    (history_of_entries (record {
      page = page 0 1;
      hist = Twice (record { last = stamp 30 1; prev = stamp 20 1 });
    }
    ∷ record { page = page 9 1; hist = Once (stamp 7 2) } ∷ [])))
    ≡ codes "0:1 last 30@1 prev 20@1\n9:1 last 7@2\nend 2\n"
unfolding digits
shown = refl

shown_nothing : answer_text (Shown (history_of_entries [])) ≡ codes "end 0\n"
unfolding digits
shown_nothing = refl

horizon_kept : (answer_text (Kept 15) ≡ codes "horizon 15\n")
    × (answer_text (Kept 18446744073709551615) ≡ codes "horizon 18446744073709551615\n")
unfolding digits
horizon_kept = (refl, refl)

sent : answer_text (FrameNo 12) ≡ codes "frame 12\n"
unfolding digits
sent = refl

took_none : answer_text (Took 0 0) ≡ codes "took 0\n"
took_none = refl

took_two : answer_text (Took 2 4) ≡ codes "took 2 from 4\n"
unfolding digits
took_two = refl

listed : answer_text (Pages (page 0 9 ∷ page 0 2 ∷ [])) ≡ codes "pages 0:9 0:2\n"
unfolding digits
listed = refl

listed_none : answer_text (Pages []) ≡ codes "pages\n"
listed_none = refl

pinned : answer_text (Pinned (slot 3 18446744073709551615)) ≡ codes "slot 3.18446744073709551615\n"
unfolding digits
pinned = refl

bytes_read : answer_text (Bytes (202 ∷ 254 ∷ 9 ∷ 0 ∷ [])) ≡ codes "bytes cafe0900\n"
bytes_read = refl

no_bytes_read : answer_text (Bytes []) ≡ codes "bytes\n"
no_bytes_read = refl

page_named : answer_text (Page (Some (page 0 5))) ≡ codes "page 0:5\n"
unfolding digits
page_named = refl

no_page_named : answer_text (Page None) ≡ codes "none\n"
no_page_named = refl

page_loaded : answer_text (Loaded (Some (page 0 9))) ≡ codes "loaded 0:9\n"
unfolding digits
page_loaded = refl

no_page_loaded : answer_text (Loaded None) ≡ codes "none\n"
no_page_loaded = refl

no_such_thing : (answer_text (Refused NoSuchReplica) ≡ codes "refused 14 NoSuchReplica\n")
    × (answer_text (Refused NoSuchWorker) ≡ codes "refused 15 NoSuchWorker\n")
    × (answer_text (Refused NoSuchFrame) ≡ codes "refused 16 NoSuchFrame\n")
unfolding digits
no_such_thing = (refl, refl, refl)

of_the_node : (answer_text (Refused (Node Memory)) ≡ codes "refused 1 Memory\n")
    × (answer_text (Refused (Node StaleSlot)) ≡ codes "refused 13 StaleSlot\n")
unfolding digits
of_the_node = (refl, refl)

of_pages : (answer_text (Refused (Node (Pool NoDevice))) ≡ codes "refused 4 NoDevice\n")
    × (answer_text (Refused (Node (Pool NoPage))) ≡ codes "refused 5 NoPage\n")
    × (answer_text (Refused (Node (Pool AllFixed))) ≡ codes "refused 6 AllFixed\n")
unfolding digits
of_pages = (refl, refl, refl)

of_devices : (answer_text (Refused (Node (Pool ReadFault))) ≡ codes "refused 7 ReadFault\n")
    × (answer_text (Refused (Node (Pool WriteBack))) ≡ codes "refused 8 WriteBack\n")
    × (answer_text (Refused (Node (Pool Fault))) ≡ codes "refused 12 Fault\n")
unfolding digits
of_devices = (refl, refl, refl)

of_fixes : (answer_text (Refused (Node (Pool FixesFull))) ≡ codes "refused 9 FixesFull\n")
    × (answer_text (Refused (Node (Pool OutOfPage))) ≡ codes "refused 10 OutOfPage\n")
    × (answer_text (Refused (Node (Pool Fixed))) ≡ codes "refused 11 Fixed\n")
unfolding digits
of_fixes = (refl, refl, refl)

-- ---- what a schedule may print

-- it is named by a number out of range
abbrev too_many : {number count : ℕ} → count < number → IsNumber number count → ⊥
too_many above is = absurd (omega (arith, above, is.in_range))

first : (count : ℕ) → 0 < count → IsNumber 1 count
first count some = record { from_one = omega arith; in_range = omega arith }

abbrev seen : Reference
seen = record { page = page 0 1; stamp = stamp 10 1 }

-- a replica of two workers, with what reached it and what waits for its first worker
abbrev replica_with : List Reference → List Reference → ModelState
replica_with reach waiting = record {
  capacity = 64;
  replicas = record {
    reach = set_of_list reach;
    pending = waiting ∷ [] ∷ [];
    pool = no_pool;
  } ∷ [];
  records = [];
}

-- one replica with two workers: refusals, a comment and a bad line
refusals : Printed (replica_with [] []) (codes "ref 2 1 0:1 5\nflush 1 3\n# x\nbad\n")
    (codes "refused 14 NoSuchReplica\nrefused 15 NoSuchWorker\nbad line 4\n") (replica_with [] [])
unfolding meaning line_of commands words number_up_to page_of_word number_field page_field refer_of flush_of digits
refusals =
    let start : ModelState = replica_with [] [] in (
      codes "refused 14 NoSuchReplica\n",
      codes "refused 15 NoSuchWorker\nbad line 4\n",
      start,
      inl (Refused NoSuchReplica, (too_many (omega arith), refl), refl),
      (
        codes "refused 15 NoSuchWorker\n",
        codes "bad line 4\n",
        start,
        inl (Refused NoSuchWorker, ((record { from_one = omega arith; in_range = omega arith }, too_many (omega arith)), refl), refl),
        (
          [],
          codes "bad line 4\n",
          start,
          (refl, refl),
          (
            codes "bad line 4\n",
            [],
            start,
            (refl, refl),
            ([], [], start, (refl, refl), (refl, refl), refl),
            refl,
          ),
          refl,
        ),
        refl,
      ),
      refl,
    )

-- a reference waits, reaches the history, and is shown
reference : Printed (replica_with [] []) (codes "ref 1 1 0:1 10\nshow 1\nflush 1 1\nshow 1\n")
    (codes "ok\nend 0\nok\n0:1 last 10@1\nend 1\n") (replica_with (seen ∷ []) [])
unfolding meaning line_of commands words number_up_to page_of_word number_field page_field refer_of flush_of show_of history digits
reference = (
  codes "ok\n",
  codes "end 0\nok\n0:1 last 10@1\nend 1\n",
  replica_with [] (seen ∷ []),
  inl (Done, (record { replica_there = first _ (omega arith); worker_there = first _ (omega arith); message_there = tt }, refl), refl),
  (
    codes "end 0\n",
    codes "ok\n0:1 last 10@1\nend 1\n",
    replica_with [] (seen ∷ []),
    inl (Shown (history_of_entries []), (record { replica_there = first _ (omega arith); worker_there = tt; message_there = tt }, (refl, refl)), refl),
    (
      codes "ok\n",
      codes "0:1 last 10@1\nend 1\n",
      replica_with (seen ∷ []) [],
      inl (Done, (record { replica_there = first _ (omega arith); worker_there = first _ (omega arith); message_there = tt }, refl), refl),
      (
        codes "0:1 last 10@1\nend 1\n",
        [],
        replica_with (seen ∷ []) [],
        inl (Shown (history_of_entries (record { page = page 0 1; hist = Once (stamp 10 1) } ∷ [])), (record { replica_there = first _ (omega arith); worker_there = tt; message_there = tt }, (refl, refl)), refl),
        ([], [], replica_with (seen ∷ []) [], (refl, refl), (refl, refl), refl),
        refl,
      ),
      refl,
    ),
    refl,
  ),
  refl,
)

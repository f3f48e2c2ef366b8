-- Worked rows, computed: which frames and bytes a small dump has, what they tell, and why no bytes
-- are a dump.
use Rattle.std.proofs.Common.{◌≡◌, ℕ, [], ◌∷◌, ◌++◌, refl, flat_map}
use Rattle.sha2.specs.Sha256.{digest_bytes, sha256}
use Rattle.warm_stamps.specs.declared.Stamp.{Stamp}
use Rattle.warm_history.specs.ListHistories.{list_history}
use Rattle.warm_history.specs.Entry.{Entry}
use Rattle.warm_history.specs.PageHist.TheVariants.{Once, Twice}
use Rattle.warm_history.specs.Histories.{HistoryView, history}
use Rattle.warm_frames.specs.declared.message.Message.TheVariants.{Entries}
use Rattle.warm_digest.specs.BucketDigests.{digests_of}
use Rattle.warm_frames.proofs.SizeLemmas.{nothing_short, part_without_header}
use Rattle.warm_dump.specs.declared.fault.DumpFault.TheVariants.{CutShort}
use Rattle.warm_frames.specs.Chunks.{chunks}
use Rattle.warm_dump.specs.Dumps.{history_messages, text_of, dump_of}
use Rattle.warm_dump.specs.Reading.{history_of_messages, IsDumpRefused}

abbrev at_1 : ℕ → Stamp
at_1 time = record { time = time; replica = 1 }

-- 0:7 with 20@1 and 10@1, and 0:1 with 12@1
abbrev seventh : Entry
seventh = record { page = record { dev = 0; no = 7 }; hist = Twice (record { last = at_1 20; prev = at_1 10 }) }

abbrev first : Entry
first = record { page = record { dev = 0; no = 1 }; hist = Once (at_1 12) }

abbrev nothing : HistoryView
nothing = record { horizon = 0; entries = [] }

abbrev one_page : HistoryView
one_page = record { horizon = 10; entries = seventh ∷ [] }

-- the last piece may be shorter
in_pieces : chunks {A = ℕ} 2 (5 ∷ 6 ∷ 7 ∷ []) ≡ (5 ∷ 6 ∷ []) ∷ (7 ∷ []) ∷ []
in_pieces = refl

-- a bucket without entries has no frame
no_frames : history_messages 1 nothing ≡ []
no_frames = refl

one_frame : history_messages 1 one_page ≡ Entries 1 10 (seventh ∷ []) ∷ []
one_frame = refl

-- the frames come by buckets: 0:1 is in bucket 1, and 0:7 in bucket 7
two_frames : history_messages 2 (record { horizon = 0; entries = first ∷ seventh ∷ [] })
    ≡ Entries 2 0 (first ∷ []) ∷ Entries 2 0 (seventh ∷ []) ∷ []
two_frames = refl

one_page_spelled : text_of (history_messages 1 one_page) ≡
    0x4C ∷ 0x32 ∷ 0x47 ∷ 0x32 ∷ 1 ∷ 0 ∷ 1 ∷ 0 ∷ 0 ∷ 0 ∷ 0 ∷ 0 ∷ 0 ∷ 0 ∷ 0x0A ∷ 0 ∷ 0 ∷ 0 ∷ 0x23 ∷ 0
    ∷ 0 ∷ 0 ∷ 1
    ∷ 0 ∷ 0 ∷ 0 ∷ 0 ∷ 0 ∷ 0 ∷ 0 ∷ 0 ∷ 0 ∷ 7 ∷ 2 ∷ 0 ∷ 0 ∷ 0 ∷ 0 ∷ 0 ∷ 0 ∷ 0 ∷ 0x14 ∷ 0 ∷ 1 ∷ 0 ∷ 0
    ∷ 0 ∷ 0 ∷ 0 ∷ 0 ∷ 0 ∷ 0x0A ∷ 0 ∷ 1 ∷ []
one_page_spelled = refl

-- the dump of nothing is the frame of the digests, 2,048 bytes of them
nothing_dumped : dump_of 3 nothing ≡
    (0x4C ∷ 0x32 ∷ 0x47 ∷ 0x32 ∷ 2 ∷ 0 ∷ 3 ∷ 0 ∷ 0 ∷ 0 ∷ 0 ∷ 0 ∷ 0 ∷ 0 ∷ 0 ∷ 0 ∷ 0 ∷ 8 ∷ 0 ∷ [])
    ++ flat_map (λ digest. digest) (digests_of [])
unfolding digest_bytes sha256
nothing_dumped = refl

-- the frames tell the history, in any order and more than once, at their horizon
one_page_told : history_of_messages 10 (Entries 1 10 (seventh ∷ []) ∷ []) ≡ one_page
unfolding history list_history
one_page_told = refl

told_again : history_of_messages 0
    (Entries 2 0 (seventh ∷ []) ∷ Entries 1 0 (first ∷ []) ∷ Entries 2 0 (seventh ∷ []) ∷ [])
    ≡ record { horizon = 0; entries = first ∷ seventh ∷ [] }
unfolding history list_history
told_again = refl

-- an older stamp is forgotten
told_later : history_of_messages 15 (Entries 1 15 (first ∷ seventh ∷ []) ∷ [])
    ≡ record { horizon = 15; entries = record { page = seventh.page; hist = Once (at_1 20) } ∷ [] }
unfolding history list_history
told_later = refl

-- no bytes are cut short, behind none of whole frames
nothing_refused : IsDumpRefused [] 0 CutShort
nothing_refused = (0, [], [], tt, ([], record { texts = []; whole = refl; each = tt }, refl), record { texts = []; whole = refl; each = tt; part = part_without_header [] (nothing_short [] refl) })

-- Worked examples: chunks of lists, wanted buckets, and the history after a message, computed.
use Rattle.std.proofs.Common.{◌≡◌, ℕ, [], ◌∷◌, None, refl}
use Rattle.warm_stamps.specs.declared.Stamp.{Stamp}
use Rattle.warm_history.specs.Entry.{Entry}
use Rattle.warm_history.specs.PageHist.TheVariants.{Once, Twice}
use Rattle.warm_history.specs.Histories.{history_of_entries, history_of_entries_at, history}
use Rattle.warm_frames.specs.declared.message.Message.TheVariants.{Entries, Want}
use Rattle.warm_frames.specs.Chunks.{chunks}
use Rattle.warm_peer.specs.Answers.{requested_buckets, requested_messages, sent, history_after}

-- ---- chunks

five_in_twos : chunks {A = ℕ} 2 (1 ∷ 2 ∷ 3 ∷ 4 ∷ 5 ∷ [])
    ≡ (1 ∷ 2 ∷ []) ∷ (3 ∷ 4 ∷ []) ∷ (5 ∷ []) ∷ []
five_in_twos = refl

four_in_twos : chunks {A = ℕ} 2 (1 ∷ 2 ∷ 3 ∷ 4 ∷ []) ≡ (1 ∷ 2 ∷ []) ∷ (3 ∷ 4 ∷ []) ∷ []
four_in_twos = refl

-- ---- messages

-- the request 6 has the bits 1 and 2
wanted_buckets : requested_buckets 6 ≡ 1 ∷ 2 ∷ []
unfolding requested_buckets
wanted_buckets = refl

-- a stamp of a replica
abbrev at : ℕ → ℕ → Stamp
at time replica = record { time = time; replica = replica }

-- the entry of the page 0:n, referenced once
abbrev once : ℕ → Stamp → Entry
once n stamp = record { page = record { dev = 0; no = n }; hist = Once stamp }

-- two pages of two buckets, which a replica sends in two messages; bucket 3 is empty, and gives
-- none
two_messages : requested_messages 1 (history_of_entries (once 1 (at 10 1) ∷ once 2 (at 11 2) ∷ []))
    14 ≡ Entries 1 0 (once 1 (at 10 1) ∷ []) ∷ Entries 1 0 (once 2 (at 11 2) ∷ []) ∷ []
unfolding requested_buckets
two_messages = refl

-- an empty bucket that is requested alone is sent as a message without entries
empty_sent : sent 1 (history_of_entries (once 1 (at 10 1) ∷ [])) 2 None ≡ Entries 1 0 []
unfolding history
empty_sent = refl

-- entries are joined, and do not take the place of what is known
joined : history_after (history_of_entries (once 1 (at 20 1) ∷ []))
    (Entries 2 0 (once 1 (at 30 2) ∷ []))
    ≡ history_of_entries ((let e : Entry = record {
      page = record { dev = 0; no = 1 };
      hist = Twice (record { last = at 30 2; prev = at 20 1 });
    } in e) ∷ [])
unfolding history
joined = refl

-- a request brings nothing but its horizon
only_the_horizon : history_after (history_of_entries (once 1 (at 20 1) ∷ [])) (Want 2 20 6)
    ≡ history_of_entries_at 20 (once 1 (at 20 1) ∷ [])
unfolding history
only_the_horizon = refl

-- and what is older than that is forgotten
older_forgotten : history_after (history_of_entries (once 1 (at 20 1) ∷ once 2 (at 21 1) ∷ []))
    (Want 2 21 6) ≡ history_of_entries_at 21 (once 2 (at 21 1) ∷ [])
unfolding history
older_forgotten = refl

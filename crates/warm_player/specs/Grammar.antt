-- The lines of a schedule, each a command with its fields.
use Rattle.std.specs.Prelude.{ℕ, List, [], ◌∷◌, Bool, false, ◌==◌, nat_lt, length, Option, Some}
use Rattle.std.specs.Prelude.{None, option_map, option_and_then, codes, bytes_eq, if◌then◌else◌}
use Rattle.warm_world.specs.declared.event.Event.{Event}
use Rattle.warm_world.specs.declared.event.Event.TheVariants.{Refer, Flush, Send, Offer, Deliver}
use Rattle.warm_world.specs.declared.event.Event.TheVariants.{Pin, Unpin, Put, Get, Victim, Warm}
use Rattle.warm_world.specs.declared.event.Event.TheVariants.{WarmStep, Restart, Horizon, Show}
use Rattle.warm_player.specs.Text.{words}
use Rattle.warm_player.specs.Fields.{◌>>=◌, page_field, after_field, slot_field, bytes_field}
use Rattle.warm_player.specs.Fields.{replica_field, worker_field, bucket_field, count_field}
use Rattle.warm_player.specs.Fields.{u64_field}
use Rattle.warm_player.specs.declared.parse.Line.{Line}
use Rattle.warm_player.specs.declared.parse.Line.TheVariants as meant
use Rattle.warm_player.specs.declared.parse.TheConstants.{MAX_LINE}

-- the event, if its line has no further word
abbrev pub ends_with : List (List ℕ) → Event → Option Event
ends_with [] event = Some event
ends_with (word ∷ rest) event = None

-- ---- the commands, by the words after the first

-- ref REPLICA WORKER PAGE TIME
unfoldable pub refer_of : List (List ℕ) → Option Event
refer_of fields = do
  i ← replica_field fields
  w ← worker_field i.1
  page ← page_field w.1
  time ← u64_field page.1
  ends_with time.1 (Refer i.0 w.0 page.0 time.0)

-- flush REPLICA WORKER
unfoldable pub flush_of : List (List ℕ) → Option Event
flush_of fields = do
  i ← replica_field fields
  w ← worker_field i.1
  ends_with w.1 (Flush i.0 w.0)

-- send REPLICA BUCKET, or send REPLICA BUCKET PAGE
unfoldable pub send_of : List (List ℕ) → Option Event
send_of fields = do
  i ← replica_field fields
  bucket ← bucket_field i.1
  after ← after_field bucket.1
  ends_with after.1 (Send i.0 bucket.0 after.0)

-- offer REPLICA
unfoldable pub offer_of : List (List ℕ) → Option Event
offer_of fields = do
  i ← replica_field fields
  ends_with i.1 (Offer i.0)

-- deliver REPLICA MESSAGE
unfoldable pub deliver_of : List (List ℕ) → Option Event
deliver_of fields = do
  j ← replica_field fields
  k ← u64_field j.1
  ends_with k.1 (Deliver j.0 k.0)

-- pin REPLICA PAGE
unfoldable pub pin_of : List (List ℕ) → Option Event
pin_of fields = do
  i ← replica_field fields
  page ← page_field i.1
  ends_with page.1 (Pin i.0 page.0)

-- unpin REPLICA SLOT
unfoldable pub unpin_of : List (List ℕ) → Option Event
unpin_of fields = do
  i ← replica_field fields
  slot ← slot_field i.1
  ends_with slot.1 (Unpin i.0 slot.0)

-- put REPLICA SLOT PLACE BYTES
unfoldable pub put_of : List (List ℕ) → Option Event
put_of fields = do
  i ← replica_field fields
  slot ← slot_field i.1
  at ← count_field slot.1
  bytes ← bytes_field at.1
  ends_with bytes.1 (Put i.0 slot.0 at.0 bytes.0)

-- get REPLICA SLOT PLACE COUNT
unfoldable pub get_of : List (List ℕ) → Option Event
get_of fields = do
  i ← replica_field fields
  slot ← slot_field i.1
  at ← count_field slot.1
  n ← count_field at.1
  ends_with n.1 (Get i.0 slot.0 at.0 n.0)

-- victim REPLICA
unfoldable pub victim_of : List (List ℕ) → Option Event
victim_of fields = do
  i ← replica_field fields
  ends_with i.1 (Victim i.0)

-- warm REPLICA COUNT
unfoldable pub warm_of : List (List ℕ) → Option Event
warm_of fields = do
  i ← replica_field fields
  n ← count_field i.1
  ends_with n.1 (Warm i.0 n.0)

-- warmstep REPLICA
unfoldable pub warmstep_of : List (List ℕ) → Option Event
warmstep_of fields = do
  i ← replica_field fields
  ends_with i.1 (WarmStep i.0)

-- restart REPLICA
unfoldable pub restart_of : List (List ℕ) → Option Event
restart_of fields = do
  i ← replica_field fields
  ends_with i.1 (Restart i.0)

-- horizon REPLICA TIME
unfoldable pub horizon_of : List (List ℕ) → Option Event
horizon_of fields = do
  i ← replica_field fields
  time ← u64_field i.1
  ends_with time.1 (Horizon i.0 time.0)

-- show REPLICA
unfoldable pub show_of : List (List ℕ) → Option Event
show_of fields = do
  i ← replica_field fields
  ends_with i.1 (Show i.0)

-- ---- a whole line

-- a reader of the words after the first
abbrev pub Reader : Type 0
Reader = List (List ℕ) → Option Event

-- the commands, each with its word and the reader of its fields
unfoldable pub commands : List (List ℕ × Reader)
commands =
    (codes "ref", refer_of)
    ∷ (codes "flush", flush_of)
    ∷ (codes "send", send_of)
    ∷ (codes "offer", offer_of)
    ∷ (codes "deliver", deliver_of)
    ∷ (codes "pin", pin_of)
    ∷ (codes "unpin", unpin_of)
    ∷ (codes "put", put_of)
    ∷ (codes "get", get_of)
    ∷ (codes "victim", victim_of)
    ∷ (codes "warm", warm_of)
    ∷ (codes "warmstep", warmstep_of)
    ∷ (codes "restart", restart_of)
    ∷ (codes "horizon", horizon_of)
    ∷ (codes "show", show_of)
    ∷ []

-- the value that a table has for a word, in the first row of that word
abbrev pub looked_up : {A : Type 0} → List (List ℕ × A) → List ℕ → Option A
looked_up [] word = None
looked_up (row ∷ rows) word = if bytes_eq word row.0 then Some row.1 else looked_up rows word

-- the event of a line, by its first word and the other words
abbrev pub event_of : List ℕ → List (List ℕ) → Option Event
event_of word fields = option_and_then (λ reader. reader fields) (looked_up commands word)

-- whether the first byte is this one
abbrev pub begins_with : ℕ → List ℕ → Bool
begins_with c [] = false
begins_with c (x ∷ xs) = x == c

-- a line without words and a comment mean nothing
abbrev pub line_of_words : List (List ℕ) → Option Line
line_of_words [] = Some meant.Nothing
line_of_words (word ∷ rest) =
    if begins_with 35 word then Some meant.Nothing else option_map meant.Act (event_of word rest)

-- the meaning of a line of any length, or None if it is not of the language
unfoldable pub line_of : List ℕ → Option Line
line_of line = line_of_words (words line)

-- the meaning of a line, or None if it is bad: too long, or not of the language
unfoldable pub meaning : List ℕ → Option Line
meaning line = if nat_lt MAX_LINE (length line) then None else line_of line

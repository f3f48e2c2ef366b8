-- Worked examples: a round between two replicas that know one page each, computed from the request
-- on.
use Rattle.std.proofs.Common.{◌≡◌, [], ◌∷◌, ◌++◌, List, refl}
use Rattle.warm_history.specs.Entry.{Entry}
use Rattle.warm_history.specs.PageHist.TheVariants.{Once}
use Rattle.warm_history.specs.Histories.{HistoryView, history_of_entries, history_of_entries_at, history, join}
use Rattle.warm_frames.specs.declared.message.Message.{Message}
use Rattle.warm_frames.specs.declared.message.Message.TheVariants.{Entries, Want}
use Rattle.warm_peer.specs.Answers.{requested_buckets, history_after, requested_messages}
use Rattle.warm_peer.specs.Round.{Receives, offer}

-- the page 0:1, referenced at 10 by replica 1, and the page 0:2, referenced at 11 by replica 2
abbrev one : Entry
one = record { page = record { dev = 0; no = 1 }; hist = Once (record { time = 10; replica = 1 }) }

abbrev two : Entry
two = record { page = record { dev = 0; no = 2 }; hist = Once (record { time = 11; replica = 2 }) }

abbrev primary : HistoryView
primary = history_of_entries (one ∷ [])

abbrev standby : HistoryView
standby = history_of_entries (two ∷ [])

abbrev both : HistoryView
both = history_of_entries (one ∷ two ∷ [])

-- what replica 2 answers to digests from which its own differ in the buckets 1 and 2, which is the
-- request 6
abbrev asked : List Message
asked = Entries 2 0 (two ∷ []) ∷ Want 2 0 6 ∷ []

asked_is : requested_messages 2 standby 6 ++ Want 2 0 6 ∷ [] ≡ asked
unfolding requested_buckets
asked_is = refl

-- the answer of replica 1 to that: both pages, since it now knows both
abbrev given : List Message
given = Entries 1 0 (one ∷ []) ∷ Entries 1 0 (two ∷ []) ∷ []

received : Receives 1 primary asked given both
unfolding history requested_buckets
received = ([], given, refl, (given, [], refl, (refl, refl), refl), refl)

-- and replica 2 has nothing to say to these
back : Receives 2 standby given [] both
unfolding history
back = ([], [], refl, ([], [], refl, (refl, refl), refl), refl)

join_is : join primary standby ≡ both
unfolding history
join_is = refl

-- The same if replica 2 has the horizon 11: the first page is too old for it, and replica 1 forgets
-- it when it receives that horizon.
abbrev later : HistoryView
later = history_of_entries_at 11 (two ∷ [])

-- what was offered without a horizon changes nothing
offered : history_after later (offer 1 primary) ≡ later
unfolding history
offered = refl

abbrev asked_later : List Message
asked_later = Entries 2 11 (two ∷ []) ∷ Want 2 11 6 ∷ []

asked_later_is : requested_messages 2 later 6 ++ Want 2 11 6 ∷ [] ≡ asked_later
unfolding requested_buckets
asked_later_is = refl

abbrev given_later : List Message
given_later = Entries 1 11 (two ∷ []) ∷ []

received_later : Receives 1 primary asked_later given_later later
unfolding history requested_buckets
received_later = ([], given_later, refl, (given_later, [], refl, (refl, refl), refl), refl)

back_later : Receives 2 later given_later [] later
unfolding history
back_later = ([], [], refl, (refl, refl), refl)

join_later : join primary later ≡ later
unfolding history
join_later = refl

-- Worked examples of visits: what they ask of which shard, and what becomes of them.
use Rattle.std.proofs.Common.{◌≡◌, ℕ, [], ◌∷◌, true, false, refl}
use Rattle.std.specs.Prelude.{None, Some}
use Rattle.warm_stamps.specs.declared.PageId.{PageId}
use Rattle.warm_stamps.specs.declared.Stamp.{Stamp}
use Rattle.warm_stamps.specs.declared.Reference.{Reference}
use Rattle.warm_history.specs.Entry.{Entry}
use Rattle.warm_history.specs.PageHist.TheVariants.{Once}
use Rattle.warm_history.specs.ReferenceSets.{ReferenceSet, set_of_list}
use Rattle.warm_history.specs.Histories.{history_of_entries_at}
use Rattle.warm_frames.specs.declared.message.Message.{Message}
use Rattle.warm_frames.specs.declared.message.Message.TheVariants.{Digest, Entries, Want}
use Rattle.warm_peer.specs.Answers.{requested_buckets}
use Rattle.warm_visits.specs.Given.{at_horizon}
use Rattle.warm_visits.specs.Visits.{Errand, Takes, VisitState, absorb_visit, answered, answers_of, at_shard, begun, ends, entries_left, given, giving, join_visit, nothing, offering, raise_visit, raised, receive_visit, refused, requests, sending, sent}

abbrev page : ℕ → PageId
page n = record { dev = 1; no = n }

abbrev at : ℕ → Stamp
at time = record { time = time; replica = 1 }

abbrev reference : ℕ → Reference
reference n = record { page = page n; stamp = at 8 }

abbrev once : ℕ → ℕ → Entry
once n time = record { page = page n; hist = Once (at time) }

-- Of two shards, shard 0 has the odd pages of device 1, and shard 1 the even ones. Each is given
-- its own references, in order.
pub absorbs_parts : (absorb_visit 7 2 (reference 2 ∷ reference 3 ∷ reference 5 ∷ [])).plan
    ≡ at_shard 0 (giving (set_of_list (reference 3 ∷ reference 5 ∷ [])))
    ∷ at_shard 1 (giving (set_of_list (reference 2 ∷ []))) ∷ []
absorbs_parts = refl

-- a shard without a part is not entered
absorbs_one : (absorb_visit 7 2 (reference 2 ∷ [])).plan
    ≡ at_shard 1 (giving (set_of_list (reference 2 ∷ []))) ∷ []
absorbs_one = refl

absorbs_none : (absorb_visit 7 2 []).plan ≡ []
absorbs_none = refl

-- each of four shards is raised
abbrev raises : ℕ → Errand
raises i = at_shard i (giving (at_horizon 9))

raises_each : (raise_visit 7 4 9).plan ≡ raises 0 ∷ raises 1 ∷ raises 2 ∷ raises 3 ∷ []
raises_each = refl

-- what is kept is the earliest horizon that a shard has then
first_kept : Takes (raise_visit 7 2 9) 0 (giving (at_horizon 9)) (raises 1 ∷ []) (given 12)
    (begun 7 2 (raises 1 ∷ []) (raised (Some 12)) ends)
first_kept = refl

then_kept : Takes (begun 7 2 (raises 1 ∷ []) (raised (Some 12)) ends) 1 (giving (at_horizon 9)) []
    (given 9) (begun 7 2 [] (raised (Some 9)) ends)
then_kept = refl

-- Entries of even pages: both shards are raised, and shard 1 is given them.
abbrev even : ReferenceSet
even = record {
  horizon = 5;
  given = record { page = page 2; stamp = at 6 } ∷ record { page = page 4; stamp = at 7 } ∷ [];
}

abbrev entries : Message
entries = Entries 3 5 (once 2 6 ∷ once 4 7 ∷ [])

abbrev rises : ℕ → Errand
rises i = at_shard i (giving (at_horizon 5))

receives_entries : (receive_visit 7 2 entries).plan
    ≡ rises 0 ∷ rises 1 ∷ at_shard 1 (giving even) ∷ []
receives_entries = refl

-- then nothing is left, and nothing is answered; or shard 1 has no memory, and the visit says so
abbrev taking : VisitState
taking = begun 7 2 (at_shard 1 (giving even) ∷ []) nothing ends

takes_entries : Takes taking 1 (giving even) [] (given 5) (begun 7 2 [] nothing ends)
takes_entries = refl

refuses_entries : Takes taking 1 (giving even) [] refused (record taking { stopped = true })
refuses_entries = refl

-- a request for buckets 0 and 3: both shards are raised, and each sends the bucket of its own
receives_request : (receive_visit 7 2 (Want 3 5 9)).plan
    ≡ rises 0 ∷ rises 1 ∷ at_shard 0 (sending 0 None) ∷ at_shard 1 (sending 3 None) ∷ []
unfolding requested_buckets
receives_request = refl

-- more entries of bucket 3 follow, after the last page that was sent
sends_more : Takes (begun 7 2 (at_shard 1 (sending 3 None) ∷ []) (answered []) ends) 1
    (sending 3 None) [] (sent entries true)
    (begun 7 2 (at_shard 1 (sending 3 (Some (page 4))) ∷ []) (answered (entries ∷ [])) ends)
sends_more = refl

-- none are left: a message without entries is none of the answer
sends_last : Takes
    (begun 7 2 (at_shard 1 (sending 3 (Some (page 4))) ∷ []) (answered (entries ∷ [])) ends) 1
    (sending 3 (Some (page 4))) [] (sent (Entries 7 5 []) false)
    (begun 7 2 [] (answered (entries ∷ [])) ends)
sends_last = refl

-- digests: both shards are raised, and then both offer
receives_digests : (receive_visit 7 2 (Digest 3 5 [])).plan
    ≡ rises 0 ∷ rises 1 ∷ at_shard 0 offering ∷ at_shard 1 offering ∷ []
receives_digests = refl

-- the request comes last
answers_last : answers_of (answered (entries ∷ [])) (requests (Want 7 5 8))
    ≡ entries ∷ Want 7 5 8 ∷ []
answers_last = refl

-- a history of one even page: both shards are raised, and shard 1 is given it
joins_part : (join_visit 7 2 (history_of_entries_at 5 (once 2 6 ∷ []))).plan
    ≡ rises 0 ∷ rises 1 ∷ at_shard 1 (giving (record {
      horizon = 5;
      given = record { page = page 2; stamp = at 6 } ∷ [];
    })) ∷ []
joins_part = refl

-- three entries are left of a visit that raises three shards, and none of one that was refused
raises_three : entries_left (raise_visit 7 3 9) ≡ 3
raises_three = refl

stops_early : entries_left (record taking { stopped = true }) ≡ 0
stops_early = refl

-- after the last of all pages one more entry at most
abbrev last : PageId
last = record { dev = 65535; no = 18446744073709551615 }

sends_behind_last : entries_left
    (begun 7 2 (at_shard 1 (sending 3 (Some last)) ∷ []) (answered []) ends) ≡ 2
sends_behind_last = refl

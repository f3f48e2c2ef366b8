-- The messages of a visit, taken out one after the other; and a visit that goes on after a refusal.
use Rattle.std.specs.Prelude.{ℕ, false, List, [], ◌∷◌, ◌++◌, Option, Some, None}
use Rattle.warm_frames.specs.declared.message.Message.{Message}
use Rattle.warm_frames.specs.declared.message.Message.TheVariants.{Digest}
use Rattle.warm_visits.specs.Visits.{After, Errand, Made, VisitState, answered, begun}
use Rattle.warm_visits.specs.Visits.{ends, gathered, raised, requests}

-- a visit of a replica in this many shards that has nothing to do: it raises none of them
abbrev pub idle_visit : ℕ → ℕ → VisitState
idle_visit id count = begun id count [] (raised None) ends

-- the first of the messages that are made
abbrev pub first_made : Made → Option Message
first_made (answered (message ∷ messages)) = Some message
first_made made = None

-- the first message that a visit has made
abbrev pub first_message : VisitState → Option Message
first_message v = first_made v.made

-- What comes last, once no errand and no other message is left: the request behind an answer, or
-- what was offered.
abbrev pub final_made : ℕ → Made → List Errand → After → Option Message
final_made id (answered []) [] (requests message) = Some message
final_made id (gathered horizon table) [] ends = Some (Digest id horizon table)
final_made id made plan after = None

-- what comes last of a visit
abbrev pub final_message : VisitState → Option Message
final_message v = final_made v.id v.made v.plan v.after

-- the visit without its first message; or, if it has none, without the request
abbrev pub without_of : Made → After → VisitState → VisitState
without_of (answered (message ∷ messages)) after v = record v { made = answered messages }
without_of (answered []) (requests message) v = record v { after = ends }
without_of made after v = v

-- the visit without the message that is handed out
abbrev pub without_message : VisitState → VisitState
without_message v = without_of v.made v.after v

-- the visit, which goes on with the errand that was refused
abbrev pub resumed : VisitState → VisitState
resumed v = record v { stopped = false }

-- Taken out one after the other

-- what is made, with these messages before its own
abbrev pub put_before : List Message → Made → Made
put_before taken (answered messages) = answered (taken ++ messages)
put_before taken made = made

-- the visit, with the messages that were taken before its own
abbrev pub with_taken : List Message → VisitState → VisitState
with_taken taken v = record v { made = put_before taken v.made }

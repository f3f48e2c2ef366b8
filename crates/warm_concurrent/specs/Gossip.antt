-- Exchanging histories: the messages that all shards take in, and what they offer and answer.
use Rattle.std.specs.Prelude.{◌≡◌, ℕ, List, length, Some}
use Rattle.warm_frames.specs.declared.message.Message.{Message}
use Rattle.warm_visits.specs.declared.stage.Stage.{Stage}
use Rattle.warm_visits.specs.Visits.{VisitState, answers_of, offer_in, offer_visit, receive_visit}
use Rattle.warm_concurrent.specs.declared.fault.SharedFault.{SharedFault}
use Rattle.warm_concurrent.specs.Attached.{ShardPass}
use Rattle.warm_concurrent.specs.Visiting.{GoneThrough, StageOrEndFails}

-- each shard of the replica of this number offered its digests in one turn, and this is the message of
-- what they offer together
abbrev pub ShardsOffer : ℕ → Message → List ShardPass → List ShardPass → Type 0
ShardsOffer id message old new = (w : VisitState)
    × GoneThrough (offer_visit id (length old)) w old new × (offer_in w.id w.made ≡ Some message)

-- all shards of the replica of this number took the message in, and answered with these messages
abbrev pub ShardsReceive : ℕ → Message → List Message → List ShardPass → List ShardPass → Type 0
ShardsReceive id message messages old new = (w : VisitState)
    × GoneThrough (receive_visit id (length old) message) w old new
    × (messages ≡ answers_of w.made w.after)

-- the shards' receipt of a message stopped in this stage at shard k; or they took it in, and no
-- memory was left for the list of messages
abbrev pub ReceiveFails : ℕ → Message → Stage → ℕ → SharedFault → List ShardPass
    → List ShardPass → Type 0
ReceiveFails id message stage k why old new =
    StageOrEndFails (receive_visit id (length old) message) stage k why old new

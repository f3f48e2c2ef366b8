-- The calls by which a machine sends its whole history, and receives what others have sent.
use Rattle.std.specs.Prelude.{◌≡◌, ℕ, ◌<◌, ◌≤◌, List, [], ◌∷◌, length, Option, None}
use Rattle.std.specs.List.{flat_map}
use Rattle.warm_stamps.specs.declared.PageId.{PageId}
use Rattle.warm_stamps.specs.declared.TheConstants.{BUCKETS}
use Rattle.warm_frames.specs.declared.layout.TheConstants.{MAX_ENTRIES}
use Rattle.warm_frames.specs.declared.message.Message.{Message}
use Rattle.warm_frames.specs.Limits.{entries_in}
use Rattle.warm_machine.specs.declared.operation.Operation.{Operation}
use Rattle.warm_gossip.specs.declared.call.Call.{Call}
use Rattle.warm_gossip.specs.declared.call.Call.TheVariants.{Send, Receive}
use Rattle.warm_gossip.specs.declared.call.Reply.{Reply}
use Rattle.warm_gossip.specs.declared.call.Reply.TheVariants.{Sent, Answers}
use Rattle.warm_peer.specs.Chunks.{last_page}
use Rattle.warm_replica.specs.Jobs.{Calls}
use Rattle.warm_threads.specs.Numbers.{NumberedFrom}

-- the call requested the bucket's entries after this page, and the reply is this message
abbrev pub IsSend : ℕ → Option PageId → Message → Operation Call Reply → Type 0
IsSend bucket after message e = (e.call ≡ Send bucket after) × (e.reply ≡ Sent message)

-- The calls send the bucket's entries after this page: each requests those after the last page of
-- the message before. All messages but the last are full
abbrev pub SendsBucket : ℕ → Option PageId → Calls → Type 0
SendsBucket bucket after [] = ⊥
SendsBucket bucket after (e ∷ []) = (message : Message) × IsSend bucket after message e
    × (length (entries_in message) < MAX_ENTRIES)
SendsBucket bucket after (e ∷ f ∷ es) =
    (message : Message) × IsSend bucket after message e
    × (MAX_ENTRIES ≤ length (entries_in message))
    × SendsBucket bucket (last_page (entries_in message)) (f ∷ es)

-- the calls send every bucket whole, one after the other, from bucket 0 on
pub record SendsAll (calls : Calls) : Type 0 where
  pub parts : List Calls
  pub whole : calls ≡ flat_map (λ part. part) parts
  pub count : length parts ≡ BUCKETS
  pub each : NumberedFrom 0 (λ bucket part. SendsBucket bucket None part) parts

-- a message was received, and answered
abbrev pub IsReceipt : Operation Call Reply → Type 0
IsReceipt e = (message : Message) × (answers : List Message) × (e.call ≡ Receive message)
    × (e.reply ≡ Answers answers)

-- What calls of the whole leave: references that are given to shards, of which each takes in those
-- to its pages; a message that they receive; an offer.
use Rattle.std.specs.Prelude.{◌≡◌, List, IfErr, IfOk, OnOk, Result}
use Rattle.warm_history.specs.ReferenceSets.{ReferenceSet}
use Rattle.warm_frames.specs.declared.message.Message.{Message}
use Rattle.warm_peer.specs.Answers.{refs_in}
use Rattle.warm_gossip.specs.declared.call.Call.TheVariants.{Offer, Receive}
use Rattle.warm_gossip.specs.declared.call.Reply.TheVariants.{Answers, Sent}
use Rattle.warm_gossip.specs.declared.fault.NodeFault.{NodeFault}
use Rattle.warm_gossip.specs.declared.fault.NodeFault.TheVariants.{Memory}
use Rattle.warm_gossip.specs.State.{NodeState}
use Rattle.warm_shards.specs.Clauses.{KeepPools, TakesInAll, TakesInFirst, Together}
use Rattle.warm_shards.specs.Clauses.{TogetherAnswered}
use Rattle.warm_shards.specs.Shards.{AreShards, shard_at}

-- The shards together have taken in the references of S, at the later horizon of both. They are
-- still the shards of a replica, and their pools are as they were.
pub record AreGiven (S : ReferenceSet) (old new : List NodeState) : Type 0 where
  pub shards : AreShards new
  pub given : TakesInAll old S new
  pub pools : KeepPools old new

-- What a call leaves that gives the references of S to shards. They have taken in all of S, or, if
-- memory was refused, its horizon and what it has for the first shards. They are still the shards
-- of the replica, and their pools are as they were.
pub record Gives (S : ReferenceSet) (old : List NodeState) (result : Result Unit NodeFault)
    (new : List NodeState) : Type 0 where
  pub shards : AreShards new
  pub id : (shard_at new 0).id ≡ (shard_at old 0).id
  pub given : OnOk result (TakesInAll old S new)
  pub refused : IfErr result (λ why. (why ≡ Memory) × TakesInFirst old S new)
  pub pools : KeepPools old new

-- What a call leaves by which shards receive a message. They have received it as one node does, or,
-- if memory was refused, have its horizon and what it has for the first shards. They are still the
-- shards of the replica, and their pools are as they were.
pub record ReceivesAll (message : Message) (old : List NodeState)
    (result : Result (List Message) NodeFault) (new : List NodeState) : Type 0 where
  pub shards : AreShards new
  pub id : (shard_at new 0).id ≡ (shard_at old 0).id
  pub received : IfOk result (λ answers. Together old (Receive message) (Answers answers) new)
  pub refused : IfErr result (λ why. (why ≡ Memory) × TakesInFirst old (refs_in message) new)
  pub pools : KeepPools old new

-- What a call leaves by which shards offer their digests. They have offered what one node does, or
-- memory was refused; nothing has changed that a caller sees.
pub record OffersTogether (old : List NodeState) (result : Result Message NodeFault)
    (new : List NodeState) : Type 0 where
  pub shards : AreShards new
  pub step : TogetherAnswered old Offer Sent result new
  pub pools : KeepPools old new

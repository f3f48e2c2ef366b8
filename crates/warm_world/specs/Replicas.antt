-- The changes of a replica, and of the stored messages.
use Rattle.std.specs.Prelude.{◌≡◌, ◌==◌, ◌+◌, ◌-◌, if◌then◌else◌, ℕ, List, ◌∷◌, [], ◌++◌, length}
use Rattle.std.specs.Prelude.{map, Option, Some, Result, Ok, Err}
use Rattle.warm_history.specs.Histories.{history_of_entries}
use Rattle.warm_refbuffer.specs.Buffered.{cleared}
use Rattle.warm_frames.specs.declared.message.Message.{Message}
use Rattle.warm_frames.specs.Encoding.{encoding, Encodes}
use Rattle.warm_pool.specs.View.{PoolView}
use Rattle.warm_pool.specs.Retiring.{Emptied}
use Rattle.warm_gossip.specs.declared.call.Call.{Call}
use Rattle.warm_gossip.specs.declared.call.Call.TheVariants as call
use Rattle.warm_gossip.specs.declared.call.Reply.{Reply}
use Rattle.warm_gossip.specs.declared.call.Reply.TheVariants as reply
use Rattle.warm_gossip.specs.declared.fault.NodeFault.{NodeFault}
use Rattle.warm_gossip.specs.declared.fault.NodeFault.TheVariants.{Memory}
use Rattle.warm_gossip.specs.State.{NodeView}
use Rattle.warm_gossip.specs.Step.{Step}
use Rattle.warm_world.specs.declared.event.Answer.{Answer}
use Rattle.warm_world.specs.declared.event.Answer.TheVariants.{FrameNo, Took, Refused}
use Rattle.warm_world.specs.declared.event.WorldFault.TheVariants.{Node}
use Rattle.warm_world.specs.Lists.{Pairwise}
use Rattle.warm_world.specs.Views.{ReplicaView, WorldView}

-- the replica has restarted, or its node has refused the restart
abbrev pub Restarts : ReplicaView → Result Unit NodeFault → ReplicaView → Type 0
Restarts old (Ok done) new =
    (pool : PoolView) × Emptied old.node.pool pool
    × (new ≡ record {
      node = record old.node { history = history_of_entries []; pool = pool };
      buffers = map cleared old.buffers;
    })
Restarts old (Err why) new = Step old.node call.Restart (reply.Refused why) new.node
    × (new.buffers ≡ old.buffers)

-- the answer for the result of a node's call
abbrev pub answered : Result Answer NodeFault → Answer
answered (Ok answer) = answer
answered (Err why) = Refused (Node why)

-- there is a call and a reply, and a node gives this reply to the call
abbrev pub SomeReply : NodeView → Option Call → Option Reply → NodeView → Type 0
SomeReply old (Some call) (Some reply) new = Step old call reply new
SomeReply old call reply new = ⊥

-- the bytes encode the message, and decoding them gives it
pub record EncodesMessage (bytes : List ℕ) (message : Message) : Type 0 where
  pub encodes : Encodes bytes message
  pub exact : bytes ≡ encoding message

-- the message is stored after the others, and its number is the answer; or its allocation failed
abbrev pub Keeps : WorldView → Message → Answer → WorldView → Type 0
Keeps old message (FrameNo k) new =
    (bytes : List ℕ) × EncodesMessage bytes message × (k ≡ length new.messages)
    × (new ≡ record old { messages = old.messages ++ bytes ∷ [] })
Keeps old message (Refused (Node Memory)) new = new ≡ old
Keeps old message answer new = ⊥

-- the messages are stored after the others
abbrev pub KeepsAll : List (List ℕ) → List Message → List (List ℕ) → Type 0
KeepsAll old messages new = (added : List (List ℕ))
    × Pairwise (λ _ bytes message. EncodesMessage bytes message) added messages
    × (new ≡ old ++ added)

-- the messages that answer a delivered one are stored after the others, and the answer says how
-- many they are and which number the first has
abbrev pub StoresAnswers : List (List ℕ) → List Message → Answer → List (List ℕ) → Type 0
StoresAnswers old messages (Took count first) new =
    KeepsAll old messages new × (count ≡ length messages)
    × (first ≡ if count == 0 then 0 else length new - count + 1)
StoresAnswers old messages answer new = ⊥

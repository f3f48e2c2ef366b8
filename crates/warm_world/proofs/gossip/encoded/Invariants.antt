use Rattle.std.proofs.Common.{map, take}
use Rattle.warm_world.specs.Lists.{Pairwise}
use Rattle.warm_world.specs.Replicas.{EncodesMessage}
use Rattle.warm_world.proofs.gossip.encoded.Given as goal

-- the messages so far are encoded
abbrev pub invariant-loop-message : goal.invariant-loop-message
invariant-loop-message l =
    Pairwise (λ _ bytes message. EncodesMessage bytes message) (map (λ b. b.items) l.all.items)
    (take l.message-index l.messages)

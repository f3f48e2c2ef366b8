-- A node absorbs a batch, or refuses it because of an allocation failure.
use Rattle.std.proofs.Common.{inl, inr, refl}
use Rattle.warm_gossip.specs.declared.call.Reply.TheVariants.{Done, Refused}
use Rattle.warm_gossip.specs.declared.fault.NodeFault.TheVariants.{Memory}
use Rattle.warm_gossip.specs.Batches.{BatchesAreTaken}

pub batches_are_taken : BatchesAreTaken
batches_are_taken x y batch Done goes = inl refl
batches_are_taken x y batch (Refused Memory) goes = inr refl
batches_are_taken x y batch reply goes = absurd goes

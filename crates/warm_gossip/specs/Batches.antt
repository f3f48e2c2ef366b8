-- The replies of a machine to a batch of references.
use Rattle.std.specs.Prelude.{◌≡◌, ◌⊎◌, List}
use Rattle.warm_stamps.specs.declared.Reference.{Reference}
use Rattle.warm_gossip.specs.declared.call.Call.{Call}
use Rattle.warm_gossip.specs.declared.call.Call.TheVariants.{Absorb}
use Rattle.warm_gossip.specs.declared.call.Reply.{Reply}
use Rattle.warm_gossip.specs.declared.call.Reply.TheVariants.{Done, Refused}
use Rattle.warm_gossip.specs.declared.fault.NodeFault.TheVariants.{Memory}
use Rattle.warm_gossip.specs.Step.{Step}

-- the reply for an allocation failure
abbrev pub no_memory : Reply
no_memory = Refused Memory

-- a batch is absorbed, or refused because of an allocation failure
abbrev pub TakesBatches : {X : Type 0} → (X → Call → Reply → X → Type 0) → Type 0
TakesBatches goes = (x y : _) (batch : List Reference) (reply : Reply)
    → goes x (Absorb batch) reply y → (reply ≡ Done) ⊎ (reply ≡ no_memory)

-- every node absorbs a batch, or refuses it because of an allocation failure
abbrev pub BatchesAreTaken : Type 0
BatchesAreTaken = TakesBatches Step

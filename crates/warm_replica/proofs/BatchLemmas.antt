-- What the reply to a batch says.
use Rattle.std.proofs.Common.{◌≡◌, List, subst, ⊎_elim}
use Rattle.warm_stamps.specs.declared.Reference.{Reference}
use Rattle.warm_turn.specs.declared.table.View.{View}
use Rattle.warm_turn.specs.CallHistories.{Called}
use Rattle.warm_turn.proofs.PassLemmas.{called_step}
use Rattle.warm_gossip.specs.declared.call.Call.{Call}
use Rattle.warm_gossip.specs.declared.call.Call.TheVariants.{Absorb}
use Rattle.warm_gossip.specs.declared.call.Reply.{Reply}
use Rattle.warm_gossip.specs.declared.call.Reply.TheVariants.{Done}
use Rattle.warm_gossip.specs.Batches.{TakesBatches, no_memory}

-- a batch that was not absorbed was refused because of an allocation failure
pub not_taken : {X : Type 0} (goes : X → Call → Reply → X → Type 0) → TakesBatches goes
    → (v w : View X Call Reply) (batch : List Reference) (reply : Reply)
    → Called goes v (Absorb batch) reply w → (reply ≡ Done → ⊥)
    → Called goes v (Absorb batch) no_memory w
not_taken goes takes v w batch reply called not =
    let step = called_step goes v w (Absorb batch) reply called in
    let is : reply ≡ no_memory = ⊎_elim (λ (d : reply ≡ Done). absurd (not d)) (λ (m : reply ≡ no_memory). m) (takes step.0 step.1 batch reply step.2) in
    subst (λ (r : Reply). Called goes v (Absorb batch) r w) is called

-- Why no play begins.
use Rattle.std.proofs.Common.{◌≡◌, List, Result, Ok, Err, sym, subst}
use Rattle.std.specs.Prelude.{IfErr, OnOk}
use Rattle.warm_devices.specs.Device.{DeviceState}
use Rattle.warm_world.specs.declared.play_fault.PlayFault.{PlayFault}
use Rattle.warm_world.specs.declared.play_fault.PlayFault.TheVariants.{Memory}
use Rattle.warm_world.specs.Sizes.{Sizes}
use Rattle.warm_world.specs.Nodes.{AreUsable}
use Rattle.warm_threads.specs.Refusals.{ThreadsPlayRefused}

pub usable_then : {A E : Type 0} (r : Result A E) (Q : Type 0) → Q → OnOk r Q
usable_then (Ok x) Q usable = usable
usable_then (Err e) Q usable = tt

-- usable devices are refused only because of an allocation failure
pub memory_refuses : {A : Type 0} (s : Sizes) (devices : List (List DeviceState))
    (r : Result A PlayFault) → AreUsable s devices → IfErr r (λ why. why ≡ Memory)
    → IfErr r (λ why. ThreadsPlayRefused s devices why)
memory_refuses s devices (Ok x) usable h = tt
memory_refuses s devices (Err why) usable h = subst (λ (w : PlayFault). ThreadsPlayRefused s devices w) (sym h) usable

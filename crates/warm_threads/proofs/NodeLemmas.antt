-- Nodes over lists of devices.
use Rattle.std.proofs.Common.{◌≡◌, ℕ, suc, ◌+◌, List, [], ◌∷◌, length, map, refl, ap, subst, ◌∙◌}
use Rattle.std.specs.Global.{Vec}
use Rattle.warm_devices.specs.Device.{DeviceState}
use Rattle.warm_gossip.specs.State.{NodeState}
use Rattle.warm_world.specs.Sizes.{Sizes}
use Rattle.warm_world.specs.Nodes.{nodes_over, AreUsable}

-- a node for each list
nodes_length : (s : Sizes) (i : ℕ) (devices : List (List DeviceState))
    → length (nodes_over s i devices) ≡ length devices
nodes_length s i [] = refl
nodes_length s i (first ∷ rest) = ap suc (nodes_length s (i + 1) rest)

-- one for each replica
pub nodes_count : (s : Sizes) (devices : List (List DeviceState)) (nodes : List NodeState)
    → AreUsable s devices → nodes ≡ nodes_over s 1 devices → length nodes ≡ s.replicas
nodes_count s devices nodes usable are = ap (λ (ns : List NodeState). length ns) are ∙ nodes_length s 1 devices ∙ usable.0.0

module _ {B : Type 0} (f : B → DeviceState) where
  abbrev shown : List (Vec B) → List (List DeviceState)
  shown lists = map (λ ds. map f ds.items) lists

  -- the same lists
  pub usable_as : (s : Sizes) (xs ys : List (Vec B)) → xs ≡ ys → AreUsable s (shown xs)
      → AreUsable s (shown ys)
  usable_as s xs ys same usable = subst (λ (zs : List (Vec B)). AreUsable s (shown zs)) same usable

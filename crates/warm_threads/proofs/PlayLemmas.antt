-- What was played and printed, put together.
use Rattle.std.proofs.Common.{◌≡◌, ℕ, List, map, Option, Some, None, Result, Ok, Err, subst, refl}
use Rattle.std.specs.Prelude.{OnOk, IfSome}
use Rattle.std.specs.Global.{Vec}
use Rattle.std.specs.Io.KnownBytes.{Appends}
use Rattle.warm_devices.specs.Device.{DeviceState}
use Rattle.warm_gossip.specs.State.{NodeView, node_view}
use Rattle.warm_gossip.specs.Step.{Step}
use Rattle.warm_replica.specs.declared.job.Job.{Job}
use Rattle.warm_player.specs.Text.{lines}
use Rattle.warm_world.specs.Sizes.{Sizes}
use Rattle.warm_threads.specs.Asks.{asks}
use Rattle.warm_world.specs.Nodes.{nodes_over}
use Rattle.warm_threads.specs.Plans.{AreJobsOf}
use Rattle.warm_threads.specs.Plays.{PlayedInThreads}
use Rattle.warm_threads.specs.ReplicaTexts.{replicas_text}
use Rattle.warm_threads.specs.Works.{Went}

pub played_of : {E : Type 0} (result : Result (Unit {0}) E) (text old new : Option (List ℕ))
    (s : Sizes) (devices : List (List DeviceState)) (starts ends : List NodeView)
    (jobs : List (Vec Job))
    → starts ≡ map node_view (nodes_over s 1 devices)
    → IfSome text (λ t. AreJobsOf s (asks s (lines t)) jobs) → Went Step starts jobs ends
    → OnOk result (Appends old new (replicas_text 1 ends))
    → OnOk result
    (IfSome text (λ t. (out : List ℕ) × PlayedInThreads s devices t out × Appends old new out))
played_of (Err why) text old new s devices starts ends jobs opened asked went printed = tt
played_of (Ok done) None old new s devices starts ends jobs opened asked went printed = tt
played_of (Ok done) (Some t) old new s devices starts ends jobs opened asked went printed = (
  replicas_text 1 ends,
  record { jobs = jobs; ends = ends; asked = asked; went = subst (λ (vs : List NodeView). Went Step vs jobs ends) opened went; printed = refl },
  printed,
)

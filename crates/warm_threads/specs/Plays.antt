-- The play of a schedule over devices, and its output.
use Rattle.std.specs.Prelude.{◌≡◌, ℕ, List, map}
use Rattle.std.specs.Global.{Vec}
use Rattle.warm_devices.specs.Device.{DeviceState}
use Rattle.warm_gossip.specs.State.{NodeView, node_view}
use Rattle.warm_gossip.specs.Step.{Step}
use Rattle.warm_replica.specs.declared.job.Job.{Job}
use Rattle.warm_player.specs.Text.{lines}
use Rattle.warm_world.specs.Sizes.{Sizes}
use Rattle.warm_threads.specs.Asks.{asks}
use Rattle.warm_world.specs.Nodes.{nodes_over}
use Rattle.warm_threads.specs.Plans.{AreJobsOf}
use Rattle.warm_threads.specs.ReplicaTexts.{replicas_text}
use Rattle.warm_threads.specs.Works.{Went}

-- The workers of each replica carried out the requests of the lines of the text. The replicas,
-- opened over these devices, reached states whose histories print this.
pub record PlayedInThreads (s : Sizes) (devices : List (List DeviceState)) (text out : List ℕ)
    : Type 0 where
  pub jobs : List (Vec Job)
  pub ends : List NodeView
  pub asked : AreJobsOf s (asks s (lines text)) jobs
  pub went : Went Step (map node_view (nodes_over s 1 devices)) jobs ends
  pub printed : out ≡ replicas_text 1 ends

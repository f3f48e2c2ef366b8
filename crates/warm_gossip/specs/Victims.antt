-- Which pages a node names as victims, lists as the hottest and evicts, over all references for
-- which its history stands.
use Rattle.std.specs.Prelude.{◌≡◌, ◌≢◌, ℕ, List, Option, Some}
use Rattle.warm_stamps.specs.declared.PageId.{PageId}
use Rattle.warm_history.specs.ReferenceSets.{ReferenceSet}
use Rattle.warm_history.specs.Histories.{StandsFor}
use Rattle.warm_rank.specs.Ranking.{IsVictim, hottest_pages}
use Rattle.warm_rank.specs.Laws.{IsFarthest}
use Rattle.warm_pool.specs.View.{PoolView, IsResident, IsAbsent, unfixed_pages}
use Rattle.warm_gossip.specs.declared.call.Call.{Call}
use Rattle.warm_gossip.specs.declared.call.Call.TheVariants.{Victim, WarmList, Restart}
use Rattle.warm_gossip.specs.declared.call.Reply.{Reply}
use Rattle.warm_gossip.specs.declared.call.Reply.TheVariants.{Page, Pages}
use Rattle.warm_gossip.specs.State.{NodeView}
use Rattle.warm_gossip.specs.Step.{Step}

-- the page was resident, and is no longer
abbrev pub IsEvicted : PoolView → PoolView → PageId → Type 0
IsEvicted v w p = IsResident v p × IsAbsent w p

-- The named page, and each page that is evicted by any call but a restart, is farthest back over S
-- among the unpinned resident pages.
pub record AreFarthest (S : ReferenceSet) (old : NodeView) (call : Call) (reply : Reply)
    (new : NodeView) : Type 0 where
  pub named : (v : PageId) → call ≡ Victim → reply ≡ Page (Some v)
      → IsFarthest S (unfixed_pages old.pool) v
  pub leaves : (v : PageId) → call ≢ Restart → IsEvicted old.pool new.pool v
      → IsFarthest S (unfixed_pages old.pool) v

-- each page that a node names, or evicts by any call but a restart, is farthest back among the
-- unpinned resident pages, over all references for which its history stands
abbrev pub VictimsAreFarthest : Type 0
VictimsAreFarthest = (S : ReferenceSet) (old new : NodeView) (call : Call) (reply : Reply)
    → StandsFor old.history S → Step old call reply new
    → AreFarthest S old call reply new

-- the victim and the hottest pages that a node gives are those over S
pub record RepliesOver (S : ReferenceSet) (old new : NodeView) : Type 0 where
  pub victim : (v : Option PageId) → Step old Victim (Page v) new
      → IsVictim S (unfixed_pages old.pool) v
  pub hottest : (n : ℕ) (ps : List PageId) → Step old (WarmList n) (Pages ps) new
      → ps ≡ hottest_pages S n

-- the victim and the hottest pages that a node gives are those over all references for which its
-- history stands
abbrev pub RepliesAreOverReferences : Type 0
RepliesAreOverReferences = (S : ReferenceSet) (old new : NodeView) → StandsFor old.history S
    → RepliesOver S old new

-- Warming up: the pages that as many steps as the pool has frames load.
use Rattle.std.specs.Prelude.{◌≡◌, ℕ, zero, suc, length, Option, Some, Contains}
use Rattle.warm_stamps.specs.declared.PageId.{PageId}
use Rattle.warm_history.specs.ReferenceSets.{ReferenceSet}
use Rattle.warm_history.specs.Histories.{StandsFor}
use Rattle.warm_rank.specs.Ranking.{hottest_pages}
use Rattle.warm_pool.specs.View.{PoolView, frame_at, HasPage, IsResident, IsUnfixed}
use Rattle.warm_pool.specs.declared.slot.Slot.{Slot}
use Rattle.warm_gossip.specs.declared.call.Call.TheVariants.{Pin, Unpin, WarmStep}
use Rattle.warm_gossip.specs.declared.call.Reply.{Reply}
use Rattle.warm_gossip.specs.declared.call.Reply.TheVariants.{Done, Loaded, Pinned}
use Rattle.warm_gossip.specs.State.{NodeView}
use Rattle.warm_gossip.specs.Step.{IsNextWarm, Step}
use Rattle.warm_gossip.specs.Victims.{IsEvicted}

-- no page is in two frames
abbrev pub PagesDiffer : PoolView → Type 0
PagesDiffer v = (i j : ℕ) (p : PageId) → (frame_at v i).page ≡ Some p → (frame_at v j).page ≡ Some p
    → i ≡ j

-- this many warm-up steps, one after the other, none refused
abbrev pub WarmSteps : ℕ → NodeView → NodeView → Type 0
WarmSteps zero old new = new ≡ old
WarmSteps (suc n) old new = (loaded : Option PageId) × (next : NodeView)
    × Step old WarmStep (Loaded loaded) next × WarmSteps n next new

-- the page is among the hottest over S, as many as there are frames, and a device has it
pub record IsHot (S : ReferenceSet) (v : PoolView) (p : PageId) : Type 0 where
  pub listed : Contains (hottest_pages S (length v.frames)) p
  pub had : HasPage v p

-- while no page is pinned, none of the hottest pages is evicted by a warm-up step, whatever its
-- reply
abbrev pub WarmStepKeepsHottest : Type 0
WarmStepKeepsHottest = (S : ReferenceSet) (old new : NodeView) (reply : Reply)
    → StandsFor old.history S → PagesDiffer old.pool → IsUnfixed old.pool
    → Step old WarmStep reply new → (p : PageId)
    → Contains (hottest_pages S (length old.pool.frames)) p → IsEvicted old.pool new.pool p → ⊥

-- after as many steps as there are frames, all of the hottest pages that the devices have are
-- resident
abbrev pub StepsLoad : ReferenceSet → NodeView → NodeView → Type 0
StepsLoad S old new = WarmSteps (length old.pool.frames) old new → (p : PageId) → IsHot S old.pool p
    → IsResident new.pool p

-- if no page is pinned and none is in two frames, all of the hottest pages that the devices have
-- are resident after as many steps as there are frames
abbrev pub NodeWarmUpLoads : Type 0
NodeWarmUpLoads = (S : ReferenceSet) (old new : NodeView) → StandsFor old.history S
    → PagesDiffer old.pool → IsUnfixed old.pool → StepsLoad S old new

-- if no page of this node is pinned, all of the hottest pages that its devices have are resident
-- after as many steps as it has frames, whichever references its history stands for
abbrev pub NodeWarmsUp : NodeView → Type 0
NodeWarmsUp old = (S : ReferenceSet) (new : NodeView) → StandsFor old.history S → IsUnfixed old.pool
    → StepsLoad S old new

-- the page to load next is pinned, and then unpinned: the warm-up step that loads it
abbrev pub FilledPinIsWarmStep : Type 0
FilledPinIsWarmStep = (old between new : NodeView) (p : PageId) (slot : Slot)
    → IsNextWarm old (Some p) → Step old (Pin p) (Pinned slot) between
    → Step between (Unpin slot) Done new → Step old WarmStep (Loaded (Some p)) new

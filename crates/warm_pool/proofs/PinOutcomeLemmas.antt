-- What pins and loads do when they succeed, from their steps.
use Rattle.std.proofs.Common.{◌≡◌, ℕ, List, Some, None, Result, Ok, Err, IfOk, inl, inr}
use Rattle.warm_stamps.specs.declared.PageId.{PageId}
use Rattle.warm_history.specs.Histories.{HistoryView}
use Rattle.warm_frame_table.specs.Frames.{nth_frame}
use Rattle.warm_pool.specs.declared.slot.Slot.{Slot}
use Rattle.warm_pool.specs.declared.slot.Placed.{Placed}
use Rattle.warm_pool.specs.declared.fault.PoolFault.{PoolFault}
use Rattle.warm_pool.specs.State.{PoolState, IsPool}
use Rattle.warm_pool.specs.View.{view_of, HasPage, Holds}
use Rattle.warm_pool.specs.Unchanged.{KeepsBytes, KeepsOthers}
use Rattle.warm_pool.specs.Pinning.{AddsFix}
use Rattle.warm_pool.specs.steps.Pinning.{PutsPlaced}
use Rattle.warm_pool.specs.steps.Zeroing.{FixesZeros}
use Rattle.warm_pool.specs.Outcomes.{FillsPage, LoadsPlaced, PinsPlaced, ZeroesPage}
use Rattle.warm_pool.proofs.FillingLemmas.{stays_filled}
use Rattle.warm_pool.proofs.UnchangedLemmas.{stays_in_frame}
use Rattle.warm_pool.proofs.PinLemmas.{puts_holds}
use Rattle.warm_pool.proofs.PlacedLemmas.{placed_fixed, placed_loaded}
use Rattle.warm_pool.proofs.ZeroingLemmas.{fixed_takes}

-- a page that was put into a frame
module _ {s : PoolState} (pool : IsPool s) (h : HistoryView) (t : PoolState) (p : PageId)
    (placed : Placed) (has : HasPage (view_of s) p) where
  pub puts_pinned : PutsPlaced h p 1 s placed t → PinsPlaced h p s placed t
  puts_pinned puts = record {
    pin = record {
      pinned = (has, inr puts.put);
      holds = puts_holds h (view_of s) p placed.slot (view_of t) puts.put;
      frame = puts.frame;
    };
    evicted = placed_loaded pool h (view_of t) p 1 placed puts.put puts.evicted;
  }

  pub puts_loaded : PutsPlaced h p 0 s placed t → LoadsPlaced h p s placed t
  puts_loaded puts = record {
    load = record { loaded = (has, inr puts.put); frame = puts.frame };
    evicted = placed_loaded pool h (view_of t) p 0 placed puts.put puts.evicted;
  }

-- a resident page that got one more pin
module _ (h : HistoryView) (s t : PoolState) (i : ℕ) (p : PageId) (has : HasPage (view_of s) p)
    (holds : (nth_frame s.frames i).page ≡ Some p) where
  pub fixed_pinned : KeepsBytes s t → (r : Result Placed PoolFault)
      → IfOk r (λ placed. AddsFix (view_of s) p placed.slot (view_of t))
      → IfOk r (λ placed. placed.evicted ≡ None) → IfOk r (λ placed. Holds (view_of t) placed.slot)
      → IfOk r (λ placed. KeepsOthers placed.slot.index s t)
      → IfOk r (λ placed. PinsPlaced h p s placed t)
  fixed_pinned bytes (Ok placed) adds none held others = record {
    pin = record {
      pinned = (has, inl adds);
      holds = held;
      frame = stays_in_frame s t i p placed.slot holds others bytes;
    };
    evicted = placed_fixed (view_of s) (view_of t) p placed adds none;
  }
  fixed_pinned bytes (Err why) adds none held others = tt

  pub fixed_filled : (given : List ℕ) → KeepsBytes s t → (r : Result Placed PoolFault)
      → IfOk r (λ placed. AddsFix (view_of s) p placed.slot (view_of t))
      → IfOk r (λ placed. placed.evicted ≡ None) → IfOk r (λ placed. Holds (view_of t) placed.slot)
      → IfOk r (λ placed. KeepsOthers placed.slot.index s t)
      → IfOk r (λ placed. FillsPage h p given s placed t)
  fixed_filled given bytes (Ok placed) adds none held others = record {
    pinned = (has, inl adds);
    evicted = placed_fixed (view_of s) (view_of t) p placed adds none;
    holds = held;
    frame = stays_filled s t i p given placed.slot holds others bytes;
  }
  fixed_filled given bytes (Err why) adds none held others = tt

  -- and zeros
  pub fixed_zeroed : (r : Result Slot PoolFault) → IfOk r (λ slot. FixesZeros s i slot t)
      → IfOk r (λ slot. Holds (view_of t) slot) → IfOk r (λ slot. ZeroesPage h p s slot t)
  fixed_zeroed (Ok slot) zeros held = record {
    pinned = (has, inl (zeros.zeroed p holds));
    holds = held;
    frame = fixed_takes s t i p slot holds zeros;
  }
  fixed_zeroed (Err why) zeros held = tt

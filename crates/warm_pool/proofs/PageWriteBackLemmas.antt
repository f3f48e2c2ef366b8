-- One page is written back.
use Rattle.std.proofs.Common.{◌≡◌, ℕ, ◌<◌, true, false, List, length, map, Some, Result, Ok, Err, OnOk, OnErr, is_ok, refl, sym, ◌∙◌, ap, subst}
use Rattle.std.proofs.lemmas.Option.{same_Some}
use Rattle.warm_stamps.specs.declared.PageId.{PageId}
use Rattle.warm_devices.specs.declared.fault.DeviceFault.{DeviceFault}
use Rattle.warm_frame_table.specs.Frames.{FrameState, nth_frame}
use Rattle.warm_frame_table.specs.FrameSteps.{cleaned}
use Rattle.warm_frame_table.specs.Places.{IsPlaceOf}
use Rattle.warm_pool.specs.State.{PoolState, IsPool, IsNowhere, RankedBy}
use Rattle.warm_pool.specs.View.{view_of}
use Rattle.warm_pool.specs.Unchanged.{FailsAt, KeepsRanks}
use Rattle.warm_pool.specs.DeviceCalls.{PageWrite}
use Rattle.warm_pool.specs.steps.WritingBack.{Cleans, CleanFails, WritesFrame}
use Rattle.warm_pool.specs.WritingSome.{CleansPage, IsDirtyIn, IsNotDirty, PageFails}
use Rattle.warm_pool.proofs.PoolLemmas.{ranked_set}
use Rattle.warm_pool.proofs.FrameChoiceLemmas.{found_there, found_holds}

-- the spare buffer has no part in it
pub cleans_spare : (s t : PoolState) (i n : ℕ) → Cleans s i t
    → Cleans (record s { spare = n }) i (record t { spare = n })
cleans_spare s t i n down = record {
  frames = down.frames;
  devices = down.devices;
  untouched = down.untouched;
  waits = down.waits;
  failures = down.failures;
  same = (down.same.0, refl);
}

pub fails_spare : (s t : PoolState) (i n : ℕ) → CleanFails s i t
    → CleanFails (record s { spare = n }) i (record t { spare = n })
fails_spare s t i n fails = record {
  page = fails.page;
  holds = fails.holds;
  dirty = fails.dirty;
  frames = fails.frames;
  waits = fails.waits;
  others = fails.others;
  fails = fails.fails;
}

-- what follows from the clause of an outcome
pub ok_then : {T E P Q : Type 0} (r : Result T E) → OnOk r P → (P → Q) → OnOk r Q
ok_then (Ok x) is follows = follows is
ok_then (Err e) is follows = tt

pub err_then : {T E P Q : Type 0} (r : Result T E) → OnErr r P → (P → Q) → OnErr r Q
err_then (Ok x) is follows = tt
err_then (Err e) is follows = follows is

-- Whether the page is dirty, of a pool that is seen as v

pub found_dirty : {s v : PoolState} → s ≡ v → IsPool s → (page : PageId) (at : ℕ)
    → IsPlaceOf (map (λ f. f.page) s.frames) page (Some at)
    → (nth_frame s.frames at).dirty ≡ true → IsDirtyIn v page at
found_dirty {s} {v} seen pool page at place dirty =
    subst (λ (x : PoolState). IsDirtyIn x page at) seen
    (record { there = found_there pool page at place; holds = found_holds pool page at place; dirty = dirty })

pub found_clean : {s v : PoolState} → s ≡ v → IsPool s → (page : PageId) (at : ℕ)
    → IsPlaceOf (map (λ f. f.page) s.frames) page (Some at)
    → (nth_frame s.frames at).dirty ≡ false → IsNotDirty v page
found_clean {s} {v} seen pool page at place clean =
    subst (λ (x : PoolState). IsNotDirty x page) seen
    (λ i is. ap (λ j. (nth_frame s.frames j).dirty) (pool.once i at page is (found_holds pool page at place)) ∙ clean)

pub found_none : {s v : PoolState} → s ≡ v → (page : PageId) → IsNowhere s.frames page
    → IsNotDirty v page
found_none {s} {v} seen page away =
    subst (λ (x : PoolState). IsNotDirty x page) seen (λ i is. absurd (away i is))

-- What its write did

pub cleans_page : (s t : PoolState) (page : PageId) (at : ℕ) (result : Result (Unit {0}) DeviceFault)
    → IsDirtyIn s page at → true ≡ is_ok result → OnOk result (Cleans s at t)
    → WritesFrame (nth_frame s.frames at) s.devices t.devices result → CleansPage s page t
cleans_page s t page at (Ok given) was is down wrote =
    record { frame = at; was = was; wrote = wrote page was.holds was.dirty; frames = down.frames }
cleans_page s t page at (Err fault) was is down wrote = absurd cc

pub page_fails : (s t : PoolState) (page : PageId) (at : ℕ) (result : Result (Unit {0}) DeviceFault)
    → IsDirtyIn s page at → false ≡ is_ok result → OnErr result (CleanFails s at t)
    → WritesFrame (nth_frame s.frames at) s.devices t.devices result → PageFails s page t
page_fails s t page at (Ok given) was is fails wrote = absurd cc
page_fails s t page at (Err fault) was is fails wrote =
    let call : PageWrite s.devices t.devices page.dev page.no (nth_frame s.frames at).bytes (Err fault) = wrote page was.holds was.dirty in
    record {
      frame = at;
      was = was;
      wrote = subst (λ (f : DeviceFault). PageWrite s.devices t.devices page.dev page.no (nth_frame s.frames at).bytes (Err f)) call.call.faults.0 call;
      frames = fails.frames;
      fails = subst (λ (p : PageId). FailsAt (view_of s) p.dev (view_of t)) (same_Some fails.page page (sym fails.holds ∙ was.holds)) fails.fails;
    }

-- ranks
pub cleans_ranked : (s t : PoolState) (at : ℕ) → at < length s.frames → Cleans s at t
    → KeepsRanks s t
cleans_ranked s t at there down h ranked =
    subst (λ (fs : List FrameState). RankedBy (record s { frames = fs }) h) (sym down.frames)
    (ranked_set s at (cleaned (nth_frame s.frames at)) h there (ranked at) ranked)

pub fails_ranked : (s t : PoolState) (at : ℕ) → CleanFails s at t → KeepsRanks s t
fails_ranked s t at fails h ranked =
    subst (λ (fs : List FrameState). RankedBy (record s { frames = fs }) h) (sym fails.frames) ranked

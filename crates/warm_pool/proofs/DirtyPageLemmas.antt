-- Which pages are dirty, of a pool that is seen as v.
use Rattle.std.proofs.Common.{◌≡◌, ◌↔◌, ℕ, ◌+◌, ◌<◌, ◌≤◌, Bool, true, false, IsTrue, List, length, map, Option, Some, None, refl, sym, ◌∙◌, ap, arith, inl, inr}
use Rattle.std.proofs.lemmas.Bool.{cases_eq}
use Rattle.warm_stamps.specs.declared.PageId.{PageId}
use Rattle.warm_frame_table.specs.Frames.{FrameState, nth_frame}
use Rattle.warm_frame_table.specs.Places.{IsPlaceOf}
use Rattle.warm_pool.specs.State.{PoolState, IsPool}
use Rattle.warm_pool.specs.WritingSome.{IsDirty, IsDirtyPage, IsNotDirty, NoneDirty}
use Rattle.warm_pool.proofs.PageWriteBackLemmas.{found_dirty, found_clean, found_none}
use Rattle.warm_pool.proofs.FrameChoiceLemmas.{found_nowhere}

-- One page

not_dirty : (s : PoolState) (page : PageId) → IsNotDirty s page → IsDirty s page → ⊥
not_dirty s page clean is =
    let no : true ≡ false = sym is.1.dirty ∙ clean is.0 is.1.holds in absurd (cc)

pub found_iff_dirty : {s v : PoolState} → s ≡ v → IsPool s → (page : PageId) (at : ℕ)
    → IsPlaceOf (map (λ f. f.page) s.frames) page (Some at)
    → (t : Bool) → t ≡ (nth_frame s.frames at).dirty → IsTrue t ↔ IsDirty v page
found_iff_dirty {s} {v} seen pool page at place true is =
    (λ _. (at, found_dirty seen pool page at place (sym is)), λ _. refl)
found_iff_dirty {s} {v} seen pool page at place false is =
    (λ no. absurd (cc), λ dirty. absurd (not_dirty v page (found_clean seen pool page at place (sym is)) dirty))

pub absent_not_dirty : {s v : PoolState} → s ≡ v → IsPool s → (page : PageId)
    → IsPlaceOf (map (λ f. f.page) s.frames) page None → IsTrue false ↔ IsDirty v page
absent_not_dirty {s} {v} seen pool page away =
    (λ no. absurd (cc), λ dirty. absurd (not_dirty v page (found_none seen page (found_nowhere pool page away)) dirty))

-- The page in a frame: a dirty frame has one

pub dirty_page_is : {s v : PoolState} → s ≡ v → IsPool s → (at : ℕ) → at < length v.frames
    → (nth_frame s.frames at).dirty ≡ true → (page : Option PageId)
    → page ≡ (nth_frame s.frames at).page → IsDirtyPage v at page
dirty_page_is {s} {v} seen pool at there dirty (Some page) is = record {
  there = there;
  holds = ap (λ (x : PoolState). (nth_frame x.frames at).page) (sym seen) ∙ sym is;
  dirty = ap (λ (x : PoolState). (nth_frame x.frames at).dirty) (sym seen) ∙ dirty;
}
dirty_page_is {s} {v} seen pool at there dirty None is =
    let no : true ≡ false = sym dirty ∙ (pool.bare at (sym is)).2 in absurd (cc)

pub clean_page_is : {s v : PoolState} → s ≡ v → (at : ℕ) → (nth_frame s.frames at).dirty ≡ false
    → IsDirtyPage v at None
clean_page_is {s} {v} seen at clean = ap (λ (x : PoolState). (nth_frame x.frames at).dirty) (sym seen) ∙ clean

-- One frame more

pub none_yet : (frames : List FrameState) (from : ℕ) → NoneDirty frames from from
none_yet frames from i low high = absurd (omega (arith, low, high))

pub none_more : (frames : List FrameState) (from at : ℕ) → NoneDirty frames from at
    → (nth_frame frames at).dirty ≡ false → NoneDirty frames from (at + 1)
none_more frames from at none clean i low high = elim (cases_eq i at) [
  | inl e ↦ ap (λ j. (nth_frame frames j).dirty) e ∙ clean
  | inr ne ↦ none i low (omega (arith, high, ne))
]

pub none_left : (frames : List FrameState) (from at : ℕ) → length frames ≤ at
    → NoneDirty frames from at → NoneDirty frames from (length frames)
none_left frames from at all none i low high = none i low (omega (arith, all, high))

-- A page that is pinned, and then unpinned, as a warm-up step.
use Rattle.std.proofs.Common.{◌≡◌, ℕ, ◌-◌, ◌<◌, List, length, set, get_or, Some, refl, sym, ap, subst, ◌∙◌, inl, inr}
use Rattle.std.proofs.lemmas.List.{get_or-set_same, length-set, set-set}
use Rattle.warm_stamps.specs.declared.PageId.{PageId}
use Rattle.warm_history.specs.Histories.{HistoryView}
use Rattle.warm_pool.specs.declared.slot.Slot.{Slot}
use Rattle.warm_pool.specs.View.{FrameView, PoolView, frame_at, Holds, IsResident}
use Rattle.warm_pool.specs.Pinning.{PutsIn, unpinned}
use Rattle.warm_gossip.specs.State.{NodeView}
use Rattle.warm_gossip.specs.WarmUps.{FilledPinIsWarmStep}
use Rattle.warm_gossip.proofs.VictimLemmas.{KeepsPages, fixes_change, no_frame}

-- a page that was put into a frame with one pin, and then lost it, was put into it without a pin
module _ (h : HistoryView) (v w : PoolView) (p : PageId) (slot : Slot) (puts : PutsIn h v p 1 slot w)
    (holds : Holds w slot) where
  abbrev u : PoolView
  u = unpinned w slot

  abbrev came : ℕ → FrameView
  came n = record { page = Some p; generation = slot.generation; fixes = n }

  put : w.frames ≡ set v.frames slot.index (came 1)
  put = ap (λ x. x.frames) puts.becomes

  there : slot.index < length v.frames
  there = subst (λ n. slot.index < n) (ap length put ∙ length-set v.frames slot.index (came 1)) holds.there

  here : frame_at w slot.index ≡ came 1
  here = ap (λ (fs : List FrameView). get_or fs slot.index no_frame) put ∙ get_or-set_same v.frames slot.index (came 1) no_frame there

  frames : u.frames ≡ set v.frames slot.index (came 0)
  frames =
      ap (λ (f : FrameView). let g : FrameView = record f { fixes = f.fixes - 1 } in set w.frames slot.index g) here
      ∙ ap (λ fs. set fs slot.index (came 0)) put ∙ set-set v.frames slot.index (came 1) (came 0)

  pages : KeepsPages w u
  pages = fixes_change w u slot.index ((frame_at w slot.index).fixes - 1) holds.there refl

  was_resident : (q : PageId) → IsResident u q → IsResident w q
  was_resident q is = record {
    frame = is.frame;
    there = subst (λ n. is.frame < n) (length-set w.frames slot.index (record (frame_at w slot.index) { fixes = (frame_at w slot.index).fixes - 1 })) is.there;
    holds = sym (pages is.frame) ∙ is.holds;
  }

  put_unpinned : PutsIn h v p 0 slot u
  put_unpinned = record {
    absent = puts.absent;
    to_load = puts.to_load;
    below = puts.below;
    current = puts.current;
    becomes = ap (λ (x : PoolView). let y : PoolView = record x { frames = u.frames } in y) puts.becomes
        ∙ ap (λ (fs : List FrameView). let y : PoolView = record v { frames = fs; contents = w.contents } in y) frames;
    contents = record {
      honest = puts.contents.honest;
      resident = λ q old new. puts.contents.resident q old (was_resident q new);
      absent = λ q lies away. puts.contents.absent q lies (λ i held. away i (pages i ∙ held));
      sized = λ q new. puts.contents.sized q (was_resident q new);
    };
  }

pub filled_pin_is_a_warm_step : FilledPinIsWarmStep
filled_pin_is_a_warm_step old between new p slot next pin unpin =
    let u : PoolView = unpinned between.pool slot in
    let pool : new.pool ≡ u = ap (λ x. x.pool) unpin.1 in
    let puts : PutsIn old.history old.pool p 1 slot between.pool = elim pin.1.1 [ inl adds ↦ absurd (next.3.1 slot.index adds.resident) | inr puts ↦ puts ] in
    let alone = unpin.1 ∙ ap (λ (x : NodeView). let y : NodeView = record x { pool = u } in y) pin.0
    ∙ ap (λ (x : PoolView). let y : NodeView = record old { pool = x } in y) (sym pool) in
    (next, (alone, (slot, subst (PutsIn old.history old.pool p 0 slot) (sym pool) (put_unpinned old.history old.pool between.pool p slot puts unpin.0))))

-- A call leaves in the frames the pages that were there, and at most the page that it brings.
use Rattle.std.proofs.Common.{◌≡◌, ◌⊎◌, ◌<◌, ℕ, inl, inr, length, set, get_or, Some, None, refl, sym, ap, subst, ◌∙◌}
use Rattle.std.proofs.Math.ListN.{get_or-map as mapped}
use Rattle.warm_stamps.specs.declared.PageId.{PageId}
use Rattle.warm_frame_table.proofs.ListLemmas.{at_set}
use Rattle.warm_pool.specs.Retiring.{Emptied, emptied}
use Rattle.warm_pool.specs.View.{FrameView, IsResident, PoolView, frame_at}
use Rattle.warm_gossip.specs.Brings.{Brings, BringsOnly, CallsBringOnly}
use Rattle.warm_gossip.proofs.VictimLemmas.{KeepsPages, frame_is_there, no_frame, step_goes}
use Rattle.warm_gossip.proofs.WarmUpLemmas.{resident_or_absent}

-- a page in a frame is resident
pub is_resident : (v : PoolView) (k : ℕ) (p : PageId) → (frame_at v k).page ≡ Some p
    → IsResident v p
is_resident v k p at = elim (resident_or_absent v p) [ inl there ↦ there | inr none ↦ absurd (none k at) ]

-- every frame has the page that it had
pub kept_brings : (brought : PageId → Type 0) (v w : PoolView) → KeepsPages v w
    → BringsOnly brought v w
kept_brings brought v w keeps k p at = inl (is_resident v k p (sym (keeps k) ∙ at))

-- a page was put into a frame
pub put_brings : (brought : PageId → Type 0) (v w : PoolView) (p : PageId) (i : ℕ) (f : FrameView)
    → i < length v.frames → f.page ≡ Some p → w.frames ≡ set v.frames i f → brought p
    → BringsOnly brought v w
put_brings brought v w p i f there holds becomes is k q at =
    at_set no_frame (λ j x. x.page ≡ Some q → IsResident v q ⊎ brought q) v.frames i f there
    (λ here. let e : p ≡ q = cc in inr (subst brought e is)) (λ j other held. inl (is_resident v j q held)) k
    (ap (λ fs. let x : FrameView = get_or fs k no_frame in x.page) (sym becomes) ∙ at)

-- an emptied pool has no page
pub vacant : (v w : PoolView) → Emptied v w → (k : ℕ) (p : PageId) → (frame_at w k).page ≡ Some p → ⊥
vacant v w gone k p at =
    let none : (frame_at w k).page ≡ None = ap (λ (x : PoolView). (frame_at x k).page) gone.becomes ∙ ap (λ (f : FrameView). f.page) (mapped emptied v.frames k no_frame) in
    let no : None ≡ Some p = sym none ∙ at in cc

pub calls_bring_only : CallsBringOnly
calls_bring_only old new call reply step = elim (step_goes call reply old new step).1 [
  | inl keeps ↦ kept_brings (Brings old call) old.pool new.pool keeps
  | inr moves ↦ elim moves [
    | inl puts ↦ put_brings (Brings old call) old.pool new.pool puts.0 puts.3.index _ (frame_is_there puts.4) refl (ap (λ (x : PoolView). x.frames) puts.4.becomes) puts.1
    | inr gone ↦ λ k p at. absurd (vacant old.pool new.pool gone.1 k p at)
  ]
]

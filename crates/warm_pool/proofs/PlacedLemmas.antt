-- Which page a pin and a load evict.
use Rattle.std.proofs.Common.{◌≡◌, ◌≢◌, ℕ, ◌+◌, Some, None, sym, ◌∙◌, ap, subst, inl, inr}
use Rattle.std.proofs.lemmas.Bool.{cases_eq}
use Rattle.std.proofs.lemmas.Option.{same_Some}
use Rattle.std.proofs.lemmas.List.{get_or-set_same, get_or-set_other}
use Rattle.warm_stamps.specs.declared.PageId.{PageId}
use Rattle.warm_history.specs.Histories.{HistoryView}
use Rattle.warm_frame_table.specs.Frames.{nth_frame}
use Rattle.warm_pool.specs.declared.slot.Slot.{Slot}
use Rattle.warm_pool.specs.declared.slot.Placed.{Placed}
use Rattle.warm_pool.specs.State.{PoolState, IsPool}
use Rattle.warm_pool.specs.View.{PoolView, FrameView, frame_at, view_of, IsResident, IsAbsent}
use Rattle.warm_pool.specs.Pinning.{AddsFix, PutsIn, IsPlaced}
use Rattle.warm_pool.proofs.PageByteLemmas.{frame_seen}
use Rattle.warm_pool.proofs.PinLemmas.{placed_there}

-- no page is evicted for a resident one
pub placed_resident : (v w : PoolView) (p : PageId) (placed : Placed) → placed.evicted ≡ None
    → IsResident v p
    → ((q : PageId) → IsResident v q → IsAbsent w q → ⊥) → IsPlaced v p placed w
placed_resident v w p placed none is stays = record {
  left = λ q. (
    λ e. let no : None ≡ Some q = sym none ∙ e in absurd (cc),
    λ gone. absurd (stays q gone.0 gone.1),
  );
  resident = λ _. none;
  absent = λ away. absurd (away is.frame is.holds);
}

-- a pin of a resident page leaves all pages in their frames
pub fix_keeps : (v w : PoolView) (p : PageId) (slot : Slot) → AddsFix v p slot w → (q : PageId)
    → IsResident v q → IsAbsent w q → ⊥
fix_keeps v w p slot adds q is away =
    let f : FrameView = record (frame_at v slot.index) { fixes = (frame_at v slot.index).fixes + 1 } in
    elim (cases_eq is.frame slot.index) [
      | inl at ↦
          away slot.index (ap (λ x. (frame_at x slot.index).page) adds.becomes ∙ ap (λ x. x.page) (get_or-set_same v.frames slot.index f _ adds.there)
          ∙ subst (λ n. (frame_at v n).page ≡ Some q) at is.holds)
      | inr ne ↦
          away is.frame (ap (λ x. (frame_at x is.frame).page) adds.becomes ∙ ap (λ x. x.page) (get_or-set_other v.frames slot.index is.frame f _ ne) ∙ is.holds)
    ]

pub placed_fixed : (v w : PoolView) (p : PageId) (placed : Placed) → AddsFix v p placed.slot w
    → placed.evicted ≡ None → IsPlaced v p placed w
placed_fixed v w p placed adds none =
    placed_resident v w p placed none (record { frame = placed.slot.index; there = adds.there; holds = adds.resident })
    (fix_keeps v w p placed.slot adds)

-- a page is in one frame at most, as a caller sees it
abbrev pub IsOnce : PoolView → Type 0
IsOnce v = (i j : ℕ) (q : PageId) → (frame_at v i).page ≡ Some q → (frame_at v j).page ≡ Some q → i ≡ j

pub once_seen : {s : PoolState} → IsPool s → IsOnce (view_of s)
once_seen {s} w i j q e f = w.once i j q (sym (ap (λ x. x.page) (frame_seen s i)) ∙ e) (sym (ap (λ x. x.page) (frame_seen s j)) ∙ f)

-- the page in the frame is evicted for one that is in none
module _ (h : HistoryView) (v w : PoolView) (p : PageId) (n : ℕ) (placed : Placed)
    (puts : PutsIn h v p n placed.slot w) where
  abbrev came : FrameView
  came = record { page = Some p; generation = placed.slot.generation; fixes = n }

  here : frame_at w placed.slot.index ≡ came
  here = ap (λ x. frame_at x placed.slot.index) puts.becomes ∙ get_or-set_same v.frames placed.slot.index came _ (placed_there h v placed.slot.index puts.to_load)

  other : (i : ℕ) → i ≢ placed.slot.index → frame_at w i ≡ frame_at v i
  other i ne = ap (λ x. frame_at x i) puts.becomes ∙ get_or-set_other v.frames placed.slot.index i came _ ne

  gone : IsOnce v → (q : PageId) → (frame_at v placed.slot.index).page ≡ Some q → IsAbsent w q
  gone once q was i held = elim (cases_eq i placed.slot.index) [
    | inl at ↦
        let same : p ≡ q = same_Some p q (sym (ap (λ x. x.page) here) ∙ subst (λ k. (frame_at w k).page ≡ Some q) at held) in
        puts.absent placed.slot.index (was ∙ ap Some (sym same))
    | inr ne ↦ ne (once i placed.slot.index q (sym (ap (λ x. x.page) (other i ne)) ∙ held) was)
  ]

  was_here : (q : PageId) → IsResident v q → IsAbsent w q
      → (frame_at v placed.slot.index).page ≡ Some q
  was_here q is away = elim (cases_eq is.frame placed.slot.index) [
    | inl at ↦ subst (λ k. (frame_at v k).page ≡ Some q) at is.holds
    | inr ne ↦ absurd (away is.frame (ap (λ x. x.page) (other is.frame ne) ∙ is.holds))
  ]

  placed_absent : IsOnce v → placed.evicted ≡ (frame_at v placed.slot.index).page
      → IsPlaced v p placed w
  placed_absent once is = record {
    left = λ q. (
      λ e. let was : (frame_at v placed.slot.index).page ≡ Some q = sym is ∙ e in
          (record { frame = placed.slot.index; there = placed_there h v placed.slot.index puts.to_load; holds = was }, gone once q was),
      λ left. is ∙ was_here q left.0 left.1,
    );
    resident = λ r. absurd (puts.absent r.frame r.holds);
    absent = λ _. is;
  }

pub placed_loaded : {s : PoolState} → IsPool s
    → (h : HistoryView) (w : PoolView) (p : PageId) (n : ℕ) (placed : Placed)
    → PutsIn h (view_of s) p n placed.slot w
    → placed.evicted ≡ (nth_frame s.frames placed.slot.index).page → IsPlaced (view_of s) p placed w
placed_loaded {s} pool h w p n placed puts is =
    placed_absent h (view_of s) w p n placed puts (once_seen pool) (is ∙ sym (ap (λ x. x.page) (frame_seen s placed.slot.index)))

-- A pin has one outcome.
use Rattle.std.proofs.Common.{◌≡◌, ℕ, ◌+◌, ◌⊎◌, Some, set, sym, ◌∙◌, ap, inl, inr, arith}
use Rattle.std.proofs.Math.Path.{ap₂}
use Rattle.std.proofs.lemmas.Bool.{cases_lt}
use Rattle.std.proofs.lemmas.Option.{same_Some}
use Rattle.warm_stamps.specs.declared.PageId.{PageId}
use Rattle.warm_history.specs.Histories.{HistoryView, references_of}
use Rattle.warm_pool.specs.declared.slot.Slot.{Slot}
use Rattle.warm_pool.specs.State.{PoolState, IsPool}
use Rattle.warm_pool.specs.View.{FrameView, PoolView, view_of, frame_at, contents_at, unfixed_pages}
use Rattle.warm_pool.specs.Pinning.{AddsFix, PutsIn, IsLeastFree, IsFrameToLoad}
use Rattle.warm_pool.specs.Laws.{GoAlike, PinsGoAlike}
use Rattle.warm_pool.proofs.PageByteLemmas.{frame_seen}
use Rattle.warm_pool.proofs.AddedPinLemmas.{one_victim}

frame_once : {s : PoolState} → IsPool s → (i j : ℕ) (p : PageId)
    → (frame_at (view_of s) i).page ≡ Some p → (frame_at (view_of s) j).page ≡ Some p → i ≡ j
frame_once {s} pool i j p a b = pool.once i j p (sym (ap (λ f. f.page) (frame_seen s i)) ∙ a) (sym (ap (λ f. f.page) (frame_seen s j)) ∙ b)

least_once : (v : PoolView) (i j : ℕ) → IsLeastFree v i → IsLeastFree v j → i ≡ j
least_once v i j a b = elim (cases_lt i j) [
  | inl lt ↦ absurd (b.least i lt a.free)
  | inr ge ↦ elim (cases_lt j i) [
    | inl lt ↦ absurd (a.least j lt b.free)
    | inr le ↦ omega (arith, ge, le)
  ]
]

to_load_once : {s : PoolState} → IsPool s → (h : HistoryView) (i j : ℕ)
    → IsFrameToLoad h (view_of s) (Some i) → IsFrameToLoad h (view_of s) (Some j) → i ≡ j
to_load_once {s} pool h i j (inl a) (inl b) = least_once (view_of s) i j a b
to_load_once {s} pool h i j (inl a) (inr b) = absurd (b.full i a.there a.free)
to_load_once {s} pool h i j (inr a) (inl b) = absurd (a.full j b.there b.free)
to_load_once {s} pool h i j (inr a) (inr b) =
    let same : b.page ≡ a.page = same_Some b.page a.page (one_victim (references_of h) (unfixed_pages (view_of s)) a.page a.victim (Some b.page) b.victim) in
    frame_once pool i j a.page a.holds (b.holds ∙ ap Some same)

same_slot : (a b : Slot) → a.index ≡ b.index → a.generation ≡ b.generation → a ≡ b
same_slot a b index generation = ap₂ (λ (i g : ℕ). let x : Slot = record { index = i; generation = g } in x) index generation

alike : (s : PoolState) (h : HistoryView) (p : PageId) (slot other : Slot) (v w : PoolView)
    → IsPool s → AddsFix (view_of s) p slot v ⊎ PutsIn h (view_of s) p 1 slot v
    → AddsFix (view_of s) p other w ⊎ PutsIn h (view_of s) p 1 other w
    → GoAlike (view_of s) slot v other w
alike s h p slot other v w pool (inl a) (inl b) =
    let at : other.index ≡ slot.index = frame_once pool other.index slot.index p b.resident a.resident in
    record {
      same = same_slot other slot at (b.current ∙ ap (λ i. (frame_at (view_of s) i).generation) at ∙ sym a.current);
      frames = ap (λ x. x.frames) b.becomes
          ∙ ap (λ (i : ℕ). let f : FrameView = record (frame_at (view_of s) i) { fixes = (frame_at (view_of s) i).fixes + 1 } in set (view_of s).frames i f) at
          ∙ sym (ap (λ x. x.frames) a.becomes);
      contents = λ q has honest. ap (λ x. contents_at x q) b.becomes ∙ sym (ap (λ x. contents_at x q) a.becomes);
    }
alike s h p slot other v w pool (inl a) (inr b) = absurd (b.absent slot.index a.resident)
alike s h p slot other v w pool (inr a) (inl b) = absurd (a.absent other.index b.resident)
alike s h p slot other v w pool (inr a) (inr b) =
    let at : other.index ≡ slot.index = to_load_once pool h other.index slot.index b.to_load a.to_load in
    let same : other ≡ slot = same_slot other slot at (b.current ∙ ap (λ i. (frame_at (view_of s) i).generation + 1) at ∙ sym a.current) in
    record {
      same = same;
      frames = ap (λ x. x.frames) b.becomes
          ∙ ap (λ (x : Slot). let f : FrameView = record { page = Some p; generation = x.generation; fixes = 1 } in set (view_of s).frames x.index f) same
          ∙ sym (ap (λ x. x.frames) a.becomes);
      contents = λ q has honest. b.contents.honest q has honest ∙ sym (a.contents.honest q has honest);
    }

pub pins_go_alike : PinsGoAlike
pins_go_alike s h p slot other v w pool a b = alike s h p slot other v w pool a.1 b.1

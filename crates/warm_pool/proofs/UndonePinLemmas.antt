-- A pin of a resident page that an unpin undoes: the pool is then as it was.
use Rattle.std.proofs.Common.{◌≡◌, ◌≢◌, ℕ, ◌+◌, ◌-◌, ◌^◌, ◌<◌, List, [], length, set, Some, None, refl, sym, ◌∙◌, ap, subst, inl, arith}
use Rattle.std.proofs.lemmas.List.{get_or-set_same, get_or-set_other, length-set, set-set, set-get_or}
use Rattle.warm_stamps.specs.declared.PageId.{PageId}
use Rattle.warm_history.specs.Histories.{HistoryView}
use Rattle.warm_frame_table.specs.Frames.{FrameState, nth_frame, fresh_frame}
use Rattle.warm_frame_table.specs.FrameSteps.{fixed}
use Rattle.warm_frame_table.specs.Lending.{relent}
use Rattle.warm_frame_table.proofs.ListLemmas.{at_set}
use Rattle.warm_pool.specs.declared.slot.Slot.{Slot}
use Rattle.warm_pool.specs.Unchanged.{KeepsBytes}
use Rattle.warm_pool.specs.Lending.{relent_pool}
use Rattle.warm_pool.specs.PageBytes.{IsLent}
use Rattle.warm_pool.specs.Pinning.{AddsFix, CanPinAgain, Pinned, TakesFrame, unpinned}
use Rattle.warm_pool.specs.State.{PoolState, IsPool}
use Rattle.warm_pool.specs.View.{FrameView, PoolView, contents_at, frame_at, view_of}
use Rattle.warm_pool.proofs.PoolLemmas.{alike_fits, alike_fixes, seen_fixed, set_keeps_pool, view-set}
use Rattle.warm_pool.proofs.UnchangedLemmas.{stays_in_frame}
use Rattle.warm_pool.proofs.LendingLemmas.{lent_pool}
use Rattle.warm_pool.proofs.AddedPinLemmas.{no_frame}
use Rattle.warm_pool.proofs.FrameChoiceLemmas.{seen_fixes, seen_generation, seen_has, seen_page, seen_there}

-- the pool with one more pin of the page in this frame
abbrev pub pinned_once : PoolState → ℕ → PoolState
pinned_once s i = record s { frames = set s.frames i (fixed (nth_frame s.frames i)) }

module _ {s : PoolState} (pool : IsPool s) (p : PageId) (slot : Slot) (can : CanPinAgain s p slot) where
  -- what a caller sees of the frame, before the pin and after it
  abbrev before : FrameView
  before = frame_at (view_of s) slot.index

  abbrev after : FrameView
  after = record before { fixes = before.fixes + 1 }

  there : slot.index < length (view_of s).frames
  there = seen_there pool slot.index can.there

  seen : view_of (pinned_once s slot.index)
      ≡ record (view_of s) { frames = set (view_of s).frames slot.index after }
  seen = view-set s slot.index (fixed (nth_frame s.frames slot.index)) refl refl ∙ seen_fixed pool slot.index

  adds : AddsFix (view_of s) p slot (view_of (pinned_once s slot.index))
  adds = record {
    there = there;
    resident = seen_page pool slot.index p can.holds;
    below = subst (λ n. n < 2 ^ 32 - 1) (seen_fixes pool slot.index refl) can.below;
    current = seen_generation pool slot.index can.current;
    becomes = seen;
  }

  -- the pin
  pub pins_once : (h : HistoryView)
      → Pinned h (view_of s) p slot (view_of (pinned_once s slot.index))
  pins_once h = (seen_has pool p (pool.has_device slot.index p can.holds) (pool.has_page slot.index p can.holds), inl adds)

  kept : KeepsBytes s (pinned_once s slot.index)
  kept = record {
    devices = refl;
    bytes = at_set (fresh_frame []) (λ k x. x.bytes ≡ (nth_frame s.frames k).bytes) s.frames slot.index (fixed (nth_frame s.frames slot.index)) can.there refl (λ k ne. refl);
    dirty = at_set (fresh_frame []) (λ k x. x.dirty ≡ (nth_frame s.frames k).dirty) s.frames slot.index (fixed (nth_frame s.frames slot.index)) can.there refl (λ k ne. refl);
  }

  pub takes_once : TakesFrame s p slot (pinned_once s slot.index)
  takes_once =
      stays_in_frame s (pinned_once s slot.index) slot.index p slot can.holds
      (λ j ne. get_or-set_other s.frames slot.index j (fixed (nth_frame s.frames slot.index)) (fresh_frame []) ne)
      kept

  -- what is lent of the page meanwhile is what is in the frame without the pin
  pub lent_meanwhile : (bytes : List ℕ) → IsLent (view_of s) slot bytes
      → IsLent (view_of (pinned_once s slot.index)) slot bytes
  lent_meanwhile bytes lent = record {
    page = lent.page;
    holds = ap (λ v. (frame_at v slot.index).page) seen ∙ ap (λ f. f.page) (get_or-set_same (view_of s).frames slot.index after no_frame there) ∙ lent.holds;
    size = lent.size;
    all = lent.all ∙ sym (ap (λ v. contents_at v lent.page) seen);
  }

  -- one pin more and one fewer
  same_frames : set (set (view_of s).frames slot.index after) slot.index
      (record after { fixes = after.fixes - 1 })
      ≡ (view_of s).frames
  same_frames =
      let as_many : before.fixes + 1 - 1 ≡ before.fixes = omega arith in
      ap (λ (n : ℕ). let f : FrameView = record before { fixes = n } in set (set (view_of s).frames slot.index after) slot.index f) as_many
      ∙ set-set (view_of s).frames slot.index after before
      ∙ set-get_or (view_of s).frames slot.index no_frame

  -- the unpin
  pub undone : view_of s ≡ unpinned (view_of (pinned_once s slot.index)) slot
  undone = sym (
      ap (λ (v : PoolView). unpinned v slot) seen
      ∙ ap (λ (f : FrameView). let g : FrameView = record f { fixes = f.fixes - 1 } in let v : PoolView = record (view_of s) { frames = set (set (view_of s).frames slot.index after) slot.index g } in v)
      (get_or-set_same (view_of s).frames slot.index after no_frame there)
      ∙ ap (λ (frames : List FrameView). let v : PoolView = record (view_of s) { frames = frames } in v) same_frames)

  pub kept_again : KeepsBytes (pinned_once s slot.index) s
  kept_again = record { devices = refl; bytes = λ i. sym (kept.bytes i); dirty = λ i. sym (kept.dirty i) }

  -- Bytes are left in the page meanwhile.

  pub has_page : (nth_frame s.frames slot.index).page ≢ None
  has_page none = let no : Some p ≡ None = sym can.holds ∙ none in absurd (cc)

  pub pinned_pool : IsPool (pinned_once s slot.index)
  pinned_pool =
      set_keeps_pool s slot.index (fixed (nth_frame s.frames slot.index))
      (alike_fits s slot.index (fixed (nth_frame s.frames slot.index)) can.there (alike_fixes pool slot.index ((nth_frame s.frames slot.index).fixes + 1) has_page) pool)
      pool

  pub relent_is_pool : (w : List ℕ) → IsPool (relent_pool s slot.index w)
  relent_is_pool w = lent_pool (record { page_size = s.page_size; frames = s.frames }) pool slot.index can.there has_page w

  -- the page can be pinned again afterwards
  pub relent_can : (w : List ℕ) → CanPinAgain (relent_pool s slot.index w) p slot
  relent_can w =
      let f : FrameState = relent w (nth_frame s.frames slot.index) in
      let at : nth_frame (set s.frames slot.index f) slot.index ≡ f = get_or-set_same s.frames slot.index f (fresh_frame []) can.there in
      record {
        there = subst (λ n. slot.index < n) (sym (length-set s.frames slot.index f)) can.there;
        holds = ap (λ g. g.page) at ∙ can.holds;
        below = subst (λ g. g.fixes < 2 ^ 32 - 1) (sym at) can.below;
        current = can.current ∙ sym (ap (λ g. g.generation) at);
      }

  -- whether the pin or the bytes come first
  pub either_first : (w : List ℕ)
      → relent_pool (pinned_once s slot.index) slot.index w
      ≡ pinned_once (relent_pool s slot.index w) slot.index
  either_first w =
      let f : FrameState = nth_frame s.frames slot.index in
      let pin_first : set (set s.frames slot.index (fixed f)) slot.index (relent w (nth_frame (set s.frames slot.index (fixed f)) slot.index)) ≡ set s.frames slot.index (relent w (fixed f)) =
      ap (λ (g : FrameState). set (set s.frames slot.index (fixed f)) slot.index (relent w g)) (get_or-set_same s.frames slot.index (fixed f) (fresh_frame []) can.there)
      ∙ set-set s.frames slot.index (fixed f) (relent w (fixed f)) in
      let pin_last : set (set s.frames slot.index (relent w f)) slot.index (fixed (nth_frame (set s.frames slot.index (relent w f)) slot.index)) ≡ set s.frames slot.index (fixed (relent w f)) =
      ap (λ (g : FrameState). set (set s.frames slot.index (relent w f)) slot.index (fixed g)) (get_or-set_same s.frames slot.index (relent w f) (fresh_frame []) can.there)
      ∙ set-set s.frames slot.index (relent w f) (fixed (relent w f)) in
      ap (λ (frames : List FrameState). let t : PoolState = record s { frames = frames } in t) (pin_first ∙ sym pin_last)

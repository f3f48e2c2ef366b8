-- The bytes of a page are lent, and whatever is left in them is the page's content.
use Rattle.std.proofs.Common.{◌≡◌, ◌≢◌, ℕ, ◌+◌, ◌<◌, ◌≤◌, ◌++◌, true, List, [], ◌∷◌, length, take, drop, set, None, refl, sym, ◌∙◌, ap, subst, arith}
use Rattle.std.proofs.Math.Seq.{take-append_seam}
use Rattle.std.proofs.lemmas.List.{append-nil, length-append, length-take, length-drop}
use Rattle.warm_devices.specs.Device.{DeviceState}
use Rattle.warm_frame_table.specs.Frames.{FrameState, FramesState, nth_frame}
use Rattle.warm_frame_table.specs.FrameSteps.{patched}
use Rattle.warm_frame_table.specs.Lending.{refilled, relent}
use Rattle.warm_pool.specs.declared.slot.Slot.{Slot}
use Rattle.warm_pool.specs.State.{PoolState, IsPool}
use Rattle.warm_pool.specs.View.{view_of, Holds}
use Rattle.warm_pool.specs.Lending.{relent_pool}
use Rattle.warm_pool.specs.Laws.{IsWrittenWhole}
use Rattle.warm_pool.proofs.PoolLemmas.{pool_from, held_there, held_some}
use Rattle.warm_pool.proofs.WriteLemmas.{overwritten, write_pool, write_dirty, write_ranked, write_view}

append_nothing : (xs ys : List ℕ) → length ys ≡ 0 → xs ++ ys ≡ xs
append_nothing xs [] none = append-nil xs
append_nothing xs (y ∷ ys) none = absurd (omega arith)

dropped_all : (xs : List ℕ) (n : ℕ) → length xs ≤ n → length (drop n xs) ≡ 0
dropped_all xs n most = length-drop n xs ∙ omega arith

-- as many bytes as there were
pub length-refilled : (old w : List ℕ) → length (refilled old w) ≡ length old
length-refilled old w = simp (length-take, length-append, length-drop) (omega arith)

-- all bytes that were left, if they are as many as a page has
pub refilled_whole : (old w : List ℕ) → length w ≡ length old → refilled old w ≡ w
refilled_whole old w same = ap (λ n. take n (w ++ drop (length w) old)) (sym same) ∙ take-append_seam w (drop (length w) old)

-- which is written over the whole page
pub patched_whole : (old w : List ℕ) → length w ≡ length old → patched old 0 w ≡ w
patched_whole old w same =
    let start : 0 + length w ≡ length w = omega arith in
    ap (λ n. w ++ drop n old) start ∙ append_nothing w (drop (length w) old) (dropped_all old (length w) (omega arith))

-- the frame, as after a write
pub lent_is_written : (f : FrameState) (w : List ℕ)
    → relent w f ≡ overwritten f 0 (refilled f.bytes w)
lent_is_written f w = ap (λ (bytes : List ℕ). let g : FrameState = record f { dirty = true; bytes = bytes } in g) (sym (patched_whole f.bytes (refilled f.bytes w) (length-refilled f.bytes w)))

module _ (old : FramesState) {spare : ℕ} {devices : List DeviceState}
    (w : IsPool (pool_from old spare devices)) (i : ℕ) (there : i < length old.frames)
    (some : (nth_frame old.frames i).page ≢ None) (left : List ℕ) where
  abbrev now : FramesState
  now = record old { frames = set old.frames i (relent left (nth_frame old.frames i)) }

  abbrev put : List ℕ
  put = refilled (nth_frame old.frames i).bytes left

  is : now ≡ record old { frames = set old.frames i (overwritten (nth_frame old.frames i) 0 put) }
  is = ap (λ (f : FrameState). let fs : FramesState = record old { frames = set old.frames i f } in fs) (lent_is_written (nth_frame old.frames i) left)

  within : 0 + length put ≤ old.page_size
  within = subst (λ n. 0 + n ≤ old.page_size) (sym (length-refilled (nth_frame old.frames i).bytes left ∙ w.frame_size i there)) (omega arith)

  pub lent_pool : IsPool (pool_from now spare devices)
  lent_pool = write_pool old now w i 0 put is there some within

  pub lent_written : (slot : Slot) → slot.index ≡ i → length left ≡ old.page_size
      → IsWrittenWhole (pool_from old spare devices) slot left (pool_from now spare devices)
  lent_written slot at size = subst (λ x. IsWrittenWhole (pool_from old spare devices) slot x (pool_from now spare devices))
      (refilled_whole (nth_frame old.frames i).bytes left (size ∙ sym (w.frame_size i there)))
      (record {
        written = write_view old now w i 0 put is there some within slot at;
        dirty = write_dirty old now w i 0 put is there some within slot at;
        ranked = write_ranked old now w i 0 put is there some within;
      })

-- of any frame that has a page
pub lent_page_at : (s : PoolState) (slot : Slot) (w : List ℕ) → IsPool s
    → slot.index < length s.frames → (nth_frame s.frames slot.index).page ≢ None
    → length w ≡ s.page_size → IsWrittenWhole s slot w (relent_pool s slot.index w)
lent_page_at s slot w pool there some size =
    lent_written (record { page_size = s.page_size; frames = s.frames }) pool slot.index there some w slot refl size

-- the law
pub lent_page : (s : PoolState) (slot : Slot) (w : List ℕ) → IsPool s → Holds (view_of s) slot
    → length w ≡ s.page_size → IsWrittenWhole s slot w (relent_pool s slot.index w)
lent_page s slot w pool holds size =
    lent_page_at s slot w pool (held_there pool slot holds) (held_some pool slot holds) size

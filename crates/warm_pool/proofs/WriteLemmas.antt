-- Bytes are written into a page that is in a frame.
use Rattle.std.proofs.Common.{◌≡◌, ◌≢◌, ℕ, zero, suc, ◌+◌, ◌<◌, ◌≤◌, cond, Bool, true, false, List, [], ◌∷◌, take, drop, length, map, set, Some, None, refl, sym, ◌∙◌, ap, subst, arith}
use Rattle.std.proofs.Math.ListN.{get_or-map as mapped}
use Rattle.std.proofs.lemmas.Option.{same_Some}
use Rattle.std.proofs.lemmas.List.{length-append, length-take, length-drop, length-map, map-set, set-get_or, get_or-set_same, get_or-set_other}
use Rattle.warm_stamps.specs.declared.PageId.{PageId}
use Rattle.warm_history.specs.Histories.{HistoryView}
use Rattle.warm_devices.specs.Device.{DeviceState}
use Rattle.warm_frame_table.specs.Frames.{FrameState, FramesState, nth_frame, fresh_frame}
use Rattle.warm_frame_table.specs.FrameSteps.{patched}
use Rattle.warm_pool.specs.declared.slot.Slot.{Slot}
use Rattle.warm_pool.specs.State.{PoolState, IsPool, RankedBy, nth_device}
use Rattle.warm_pool.specs.View.{stored, is_page, bytes_in, frame_view, device_view, view_of, PoolView, FrameView, frame_at, contents_at, Holds}
use Rattle.warm_pool.specs.PageBytes.{Written, IsLent, IsRead, MakesDirty}
use Rattle.warm_pool.proofs.PageByteLemmas.{page_found, bytes_held, contents_seen, frame_seen, device_seen}
use Rattle.warm_pool.proofs.PoolLemmas.{Fits, pool_from, set_keeps_pool, ranked_set, held_some, held_there}
use Rattle.warm_pool.proofs.FrameChoiceLemmas.{some_page}

pub length-patched : (old : List ℕ) (at : ℕ) (put : List ℕ) → at + length put ≤ length old
    → length (patched old at put) ≡ length old
length-patched old at put h = simp (length-append, length-take, length-drop) (omega arith)

-- a frame that changed, but not its page, has no bytes of another page
pub bytes_other : (frames : List FrameState) (q : PageId) (others : List ℕ) (i : ℕ) (g : FrameState)
    → g.page ≡ (nth_frame frames i).page → (nth_frame frames i).page ≢ Some q
    → bytes_in (set frames i g) q others ≡ bytes_in frames q others
bytes_other [] q others i g a apart = refl
bytes_other (f ∷ fs) q others zero g a apart = first (is_page q f.page) refl
  where
    first : (t : Bool) → is_page q f.page ≡ t
        → bytes_in (g ∷ fs) q others ≡ bytes_in (f ∷ fs) q others
    first true e = absurd (apart (page_found q f.page e))
    first false e =
        ap (λ o. cond (is_page q o) g.bytes (bytes_in fs q others)) a ∙ ap (λ t. cond t g.bytes (bytes_in fs q others)) e
        ∙ sym (ap (λ t. cond t f.bytes (bytes_in fs q others)) e)
bytes_other (f ∷ fs) q others (suc i) g a apart = ap (λ t. cond (is_page q f.page) f.bytes t) (bytes_other fs q others i g a apart)

-- the frame with these bytes written from `at` on
abbrev pub overwritten : FrameState → ℕ → List ℕ → FrameState
overwritten f at put = record f { dirty = true; bytes = patched f.bytes at put }

abbrev pub after : FramesState → ℕ → ℕ → List ℕ → FramesState
after old i at put = record old { frames = set old.frames i (overwritten (nth_frame old.frames i) at put) }

module _ (old new : FramesState) {spare : ℕ} {devices : List DeviceState}
    (w : IsPool (pool_from old spare devices)) (i at : ℕ) (put : List ℕ)
    (is : new ≡ record old {
      frames = set old.frames i (overwritten (nth_frame old.frames i) at put);
    }) (there : i < length old.frames)
    (some : (nth_frame old.frames i).page ≢ None) (within : at + length put ≤ old.page_size) where
  sized : length (nth_frame old.frames i).bytes ≡ old.page_size
  sized = w.frame_size i there

  fits : Fits (pool_from old spare devices) i (overwritten (nth_frame old.frames i) at put)
  fits = record {
    there = there;
    size = length-patched (nth_frame old.frames i).bytes at put (subst (λ n. at + length put ≤ n) (sym sized) within) ∙ sized;
    has_device = λ p e. w.has_device i p e;
    has_page = λ p e. w.has_page i p e;
    once = λ j p ne e o. ne (w.once j i p o e);
    clean = λ p e z. absurd (cc);
    bare = λ e. absurd (some e);
  }

  written_pool : IsPool (pool_from
      (record old { frames = set old.frames i (overwritten (nth_frame old.frames i) at put) }) spare
      devices)
  written_pool = set_keeps_pool (pool_from old spare devices) i (overwritten (nth_frame old.frames i) at put) fits w

  pub write_pool : IsPool (pool_from new spare devices)
  write_pool = subst (λ x. IsPool (pool_from x spare devices)) (sym is) written_pool

  pub write_ranked : (h : HistoryView) → RankedBy (pool_from old spare devices) h
      → RankedBy (pool_from new spare devices) h
  write_ranked h r = subst (λ x. RankedBy (pool_from x spare devices) h) (sym is) (ranked_set (pool_from old spare devices) i (overwritten (nth_frame old.frames i) at put) h there (r i) r)

  -- and nothing else of the pool has changed
  pub write_dirty : (slot : Slot) → slot.index ≡ i
      → MakesDirty (pool_from old spare devices) slot (pool_from new spare devices)
  write_dirty slot at_slot = record {
    dirty = ap (λ n. (nth_frame new.frames n).dirty) at_slot ∙ ap (λ f. (nth_frame f.frames i).dirty) is
        ∙ ap (λ f. f.dirty) (get_or-set_same old.frames i (overwritten (nth_frame old.frames i) at put) (fresh_frame []) there);
    others = λ j ne. ap (λ f. nth_frame f.frames j) is ∙ get_or-set_other old.frames i j (overwritten (nth_frame old.frames i) at put) (fresh_frame []) (λ e. ne (e ∙ sym at_slot));
    devices = refl;
  }

  same_frames : map frame_view (set old.frames i (overwritten (nth_frame old.frames i) at put))
      ≡ map frame_view old.frames
  same_frames = map-set frame_view old.frames i (overwritten (nth_frame old.frames i) at put)
      ∙ ap (set (map frame_view old.frames) i) (sym (mapped frame_view old.frames i (fresh_frame []))) ∙ set-get_or (map frame_view old.frames) i (frame_view (fresh_frame []))

  pub write_view : (slot : Slot) → slot.index ≡ i
      → Written (view_of (pool_from old spare devices)) slot at put
      (view_of (pool_from new spare devices))
  write_view slot at_slot = subst (λ x. Written (view_of (pool_from old spare devices)) slot at put (view_of (pool_from x spare devices))) (sym is) (record {
    page = page.0;
    holds = ap (λ n. (frame_at (view_of (pool_from old spare devices)) n).page) at_slot ∙ ap (λ f. f.page) (frame_seen (pool_from old spare devices) i) ∙ page.1;
    within = within;
    becomes = ap (λ (fs : List FrameView). let v : PoolView = record (view_of (pool_from (after old i at put) spare devices)) { frames = fs } in v) same_frames;
    bytes = seen_new page.0 page.1 ∙ ap (λ l. patched l at put) (sym (seen_old page.0 page.1));
    others = λ q has ne.
        let d : q.dev < length devices = subst (λ n. q.dev < n) (length-map devices device_view) has.device in
        let n : q.no < (nth_device devices q.dev).pages = subst (λ x. q.no < x.pages) (device_seen (pool_from old spare devices) q.dev) has.number in
        contents_seen (pool_from (after old i at put) spare devices) q d n
        ∙ bytes_other old.frames q (stored devices q) i (overwritten (nth_frame old.frames i) at put) refl (λ e. ne (same_Some q page.0 (sym e ∙ page.1)))
        ∙ sym (contents_seen (pool_from old spare devices) q d n);
  })
    where
      page : (p : PageId) × ((nth_frame old.frames i).page ≡ Some p)
      page = some_page (nth_frame old.frames i).page some

      after_frame : nth_frame (after old i at put).frames i
          ≡ overwritten (nth_frame old.frames i) at put
      after_frame = get_or-set_same old.frames i (overwritten (nth_frame old.frames i) at put) (fresh_frame []) there

      seen_old : (p : PageId) (e : (nth_frame old.frames i).page ≡ Some p)
          → contents_at (view_of (pool_from old spare devices)) p ≡ (nth_frame old.frames i).bytes
      seen_old p e = contents_seen (pool_from old spare devices) p (w.has_device i p e) (w.has_page i p e) ∙ bytes_held (pool_from old spare devices) i p (stored devices p) w e

      seen_new : (p : PageId) (e : (nth_frame old.frames i).page ≡ Some p)
          → contents_at (view_of (pool_from (after old i at put) spare devices)) p
          ≡ patched (nth_frame old.frames i).bytes at put
      seen_new p e =
          contents_seen (pool_from (after old i at put) spare devices) p (w.has_device i p e) (w.has_page i p e)
          ∙ bytes_held (pool_from (after old i at put) spare devices) i p (stored devices p) written_pool (ap (λ f. f.page) after_frame ∙ e)
          ∙ ap (λ f. f.bytes) after_frame

-- the bytes of a resident page, and of a pinned one, lent and read
pub lent_at : {s : PoolState} → IsPool s → (p : PageId) (slot : Slot)
    → slot.index < length s.frames → (nth_frame s.frames slot.index).page ≡ Some p
    → (bytes : List ℕ) → bytes ≡ (nth_frame s.frames slot.index).bytes
    → IsLent (view_of s) slot bytes
lent_at {s} w p slot there held bytes is =
    let seen : contents_at (view_of s) p ≡ (nth_frame s.frames slot.index).bytes =
    contents_seen s p (w.has_device slot.index p held) (w.has_page slot.index p held) ∙ bytes_held s slot.index p (stored s.devices p) w held in
    record {
      page = p;
      holds = ap (λ f. f.page) (frame_seen s slot.index) ∙ held;
      size = ap length is ∙ w.frame_size slot.index there;
      all = is ∙ sym seen;
    }

pub lent_seen : {s : PoolState} → IsPool s → (slot : Slot) → Holds (view_of s) slot
    → (bytes : List ℕ) → bytes ≡ (nth_frame s.frames slot.index).bytes
    → IsLent (view_of s) slot bytes
lent_seen {s} w slot h bytes is =
    let page = some_page (nth_frame s.frames slot.index).page (held_some w slot h) in
    lent_at w page.0 slot (held_there w slot h) page.1 bytes is

pub read_lent : (v : PoolView) (slot : Slot) (at : ℕ) (got src : List ℕ) (n m : ℕ)
    → IsLent v slot src
    → got ≡ take m (drop at src) → m ≡ n → length got ≡ n → at + n ≤ v.page_size
    → IsRead v slot at got
read_lent v slot at got src n m lent got_is m_is len within = record {
  page = lent.page;
  holds = lent.holds;
  within = subst (λ k. at + k ≤ v.page_size) (sym len) within;
  bytes = got_is ∙ ap (λ k. take k (drop at src)) (m_is ∙ sym len) ∙ ap (λ l. take (length got) (drop at l)) lent.all;
}

-- What stays true of a pool when a frame of it, or its devices, change.
use Rattle.std.proofs.Common.{◌≡◌, ◌≢◌, ℕ, ◌+◌, ◌-◌, ◌<◌, ◌≤◌, cond, false, IsTrue, List, [], length, map, set, Some, None, refl, sym, ◌∙◌, ap, subst, arith}
use Rattle.std.proofs.Math.Path.{ap₂}
use Rattle.std.specs.Option.{option_map}
use Rattle.std.proofs.lemmas.List.{length-set, length-map, map-set, get_or-set_same}
use Rattle.warm_stamps.specs.declared.PageId.{PageId}
use Rattle.warm_history.specs.Histories.{HistoryView, hist, references_of}
use Rattle.warm_rank.specs.Keys.{rank_key}
use Rattle.warm_devices.specs.Device.{DeviceState, page_at}
use Rattle.warm_rank.specs.declared.TheConstants.{MAX_FRAMES}
use Rattle.warm_frame_table.specs.Frames.{FrameState, FramesState, nth_frame, fresh_frame}
use Rattle.warm_frame_table.proofs.ListLemmas.{at_set, same_maps}
use Rattle.warm_pool.specs.declared.slot.Slot.{Slot}
use Rattle.warm_pool.specs.State.{PoolState, IsPool, RankedBy, no_device, nth_device}
use Rattle.warm_pool.specs.View.{stored, contents_of, frame_view, device_view, view_of, PoolView, FrameView, Holds, frame_at}
use Rattle.warm_pool.specs.WritingBack.{KeptDevices}
use Rattle.warm_pool.specs.Pinning.{unpinned}
use Rattle.warm_pool.proofs.PageByteLemmas.{bytes_alike, bytes_kept, contents_same, frame_seen}

-- a frame that may be at index i of a pool
pub record Fits (s : PoolState) (i : ℕ) (g : FrameState) : Type 0 where
  pub there : i < length s.frames
  pub size : length g.bytes ≡ s.page_size
  pub has_device : (p : PageId) → g.page ≡ Some p → p.dev < length s.devices
  pub has_page : (p : PageId) → g.page ≡ Some p → p.no < (nth_device s.devices p.dev).pages
  pub once : (j : ℕ) (p : PageId) → j ≢ i → g.page ≡ Some p → (nth_frame s.frames j).page ≢ Some p
  pub clean : (p : PageId) → g.page ≡ Some p → g.dirty ≡ false
      → IsTrue (nth_device s.devices p.dev).honest
      → g.bytes ≡ page_at (nth_device s.devices p.dev).contents p.no
  pub bare : g.page ≡ None → (g.key ≡ None) × (g.fixes ≡ 0) × (g.dirty ≡ false)

pub set_keeps_pool : (s : PoolState) (i : ℕ) (g : FrameState) → Fits s i g → IsPool s
    → IsPool (record s { frames = set s.frames i g })
set_keeps_pool s i g f w = record {
  some_frames = subst (λ n. 0 < n) (sym (length-set s.frames i g)) w.some_frames;
  few_frames = subst (λ n. n ≤ MAX_FRAMES) (sym (length-set s.frames i g)) w.few_frames;
  some_bytes = w.some_bytes;
  few_bytes = w.few_bytes;
  few_devices = w.few_devices;
  spare_size = w.spare_size;
  frame_size = λ j h. at_set (fresh_frame []) (λ k x. k < length s.frames → length x.bytes ≡ s.page_size) s.frames i g f.there
      (λ _. f.size) (λ k ne. w.frame_size k) j (subst (λ n. j < n) (length-set s.frames i g) h);
  device_size = w.device_size;
  has_device = at_set (fresh_frame []) (λ k x. (p : PageId) → x.page ≡ Some p → p.dev < length s.devices) s.frames i g f.there
      f.has_device (λ k ne. w.has_device k);
  has_page = at_set (fresh_frame []) (λ k x. (p : PageId) → x.page ≡ Some p → p.no < (nth_device s.devices p.dev).pages) s.frames i g f.there
      f.has_page (λ k ne. w.has_page k);
  once = λ a b p e o. at_set (fresh_frame []) (λ k x. x.page ≡ Some p → k ≡ b) s.frames i g f.there
      (λ here. at_set (fresh_frame []) (λ k y. y.page ≡ Some p → i ≡ k) s.frames i g f.there
      (λ _. refl) (λ k ne there. absurd (f.once k p ne here there)) b o)
      (λ j ne_j here. at_set (fresh_frame []) (λ k y. y.page ≡ Some p → j ≡ k) s.frames i g f.there
      (λ there. absurd (f.once j p ne_j there here)) (λ k ne there. w.once j k p here there) b o)
      a e;
  clean = at_set (fresh_frame [])
      (λ k x. (p : PageId) → x.page ≡ Some p → x.dirty ≡ false → IsTrue (nth_device s.devices p.dev).honest → x.bytes ≡ page_at (nth_device s.devices p.dev).contents p.no)
      s.frames i g f.there f.clean (λ k ne. w.clean k);
  bare = at_set (fresh_frame []) (λ k x. x.page ≡ None → (x.key ≡ None) × (x.fixes ≡ 0) × (x.dirty ≡ false)) s.frames i g f.there
      f.bare (λ k ne. w.bare k);
}

-- a frame with the page and the bytes that it had
pub record IsAlike (f g : FrameState) : Type 0 where
  pub page : g.page ≡ f.page
  pub bytes : g.bytes ≡ f.bytes
  pub dirty : g.dirty ≡ f.dirty
  pub bare : g.page ≡ None → (g.key ≡ None) × (g.fixes ≡ 0)

pub alike_fits : (s : PoolState) (i : ℕ) (g : FrameState) → i < length s.frames
    → IsAlike (nth_frame s.frames i) g → IsPool s → Fits s i g
alike_fits s i g h a w = record {
  there = h;
  size = ap length a.bytes ∙ w.frame_size i h;
  has_device = λ p e. w.has_device i p (sym a.page ∙ e);
  has_page = λ p e. w.has_page i p (sym a.page ∙ e);
  once = λ j p ne e o. ne (w.once j i p o (sym a.page ∙ e));
  clean = λ p e z o. a.bytes ∙ w.clean i p (sym a.page ∙ e) (sym a.dirty ∙ z) o;
  bare = λ e. let less = a.bare e in let was = w.bare i (sym a.page ∙ e) in (less.0, less.1, a.dirty ∙ was.2);
}

-- the ranks, if a frame changed to another that the history ranks as it says
pub ranked_set : (s : PoolState) (i : ℕ) (g : FrameState) (h : HistoryView) → i < length s.frames
    → g.key ≡ option_map (λ p. rank_key p (hist (references_of h) p)) g.page → RankedBy s h
    → RankedBy (record s { frames = set s.frames i g }) h
ranked_set s i g h there e r =
    at_set (fresh_frame []) (λ k x. x.key ≡ option_map (λ p. rank_key p (hist (references_of h) p)) x.page) s.frames i g there e (λ k ne. r k)

-- what a caller sees, if a frame changed, but neither its page nor its bytes
pub view-set : (s : PoolState) (i : ℕ) (g : FrameState) → g.page ≡ (nth_frame s.frames i).page
    → g.bytes ≡ (nth_frame s.frames i).bytes
    → view_of (record s { frames = set s.frames i g })
    ≡ record (view_of s) { frames = set (view_of s).frames i (frame_view g) }
view-set s i g page bytes =
    ap₂ (λ (frames : List FrameView) (contents : List (List (List ℕ))). let v : PoolView = record (view_of s) { frames = frames; contents = contents } in v)
    (map-set frame_view s.frames i g)
    (contents_same s.frames (set s.frames i g) s.devices s.devices refl (λ k. refl) (λ p. bytes_kept s.frames p (stored s.devices p) i g page bytes))

-- the bytes that an honest device has for a page
pub stored_honest : (ds : List DeviceState) (p : PageId) → IsTrue (nth_device ds p.dev).honest
    → stored ds p ≡ page_at (nth_device ds p.dev).contents p.no
stored_honest ds p o = ap (λ t. cond t (page_at (nth_device ds p.dev).contents p.no) []) o

pub devices_keep_pool : (s : PoolState) (ds : List DeviceState) → KeptDevices s.frames s.devices ds
    → IsPool s → IsPool (record s { devices = ds })
devices_keep_pool s ds d w = record {
  some_frames = w.some_frames;
  few_frames = w.few_frames;
  some_bytes = w.some_bytes;
  few_bytes = w.few_bytes;
  few_devices = subst (λ n. n ≤ 65536) (sym d.count) w.few_devices;
  spare_size = w.spare_size;
  frame_size = w.frame_size;
  device_size = λ k h. (d.shape k).page_size ∙ w.device_size k (subst (λ n. k < n) d.count h);
  has_device = λ i p e. subst (λ n. p.dev < n) (sym d.count) (w.has_device i p e);
  has_page = λ i p e. subst (λ n. p.no < n) (sym (d.shape p.dev).pages) (w.has_page i p e);
  once = w.once;
  clean = λ i p e z o.
      let was : IsTrue (nth_device s.devices p.dev).honest = subst IsTrue (d.shape p.dev).honest o in
      w.clean i p e z was ∙ sym (stored_honest s.devices p was) ∙ sym (d.clean i p e z) ∙ stored_honest ds p o;
  bare = w.bare;
}

-- what a caller sees, if the devices changed but kept what is in no frame
pub view_of_kept : (s : PoolState) (ds : List DeviceState) → KeptDevices s.frames s.devices ds
    → view_of (record s { devices = ds })
    ≡ record (view_of s) { failures = map (λ d. d.failures) ds }
view_of_kept s ds d =
    let views : map device_view ds ≡ map device_view s.devices = same_maps device_view no_device ds s.devices d.count
    (λ k. let shape = d.shape k in λ i. record { pages = shape.pages i; honest = shape.honest i; unfailing = shape.unfailing i }) in
    let contents : contents_of s.frames ds ≡ contents_of s.frames s.devices = contents_same s.frames s.frames s.devices ds d.count (λ k. (d.shape k).pages)
    (λ p. bytes_alike s.frames p (stored ds p) (stored s.devices p) (d.absent p)) in
    λ i. record (view_of s) { devices = views i; contents = contents i; failures = map (λ d. d.failures) ds }

-- a pool of these frames and devices
abbrev pub pool_from : FramesState → ℕ → List DeviceState → PoolState
pool_from frames spare devices = record { page_size = frames.page_size; spare = spare; frames = frames.frames; devices = devices }

-- A step that changes one frame, but neither its page nor its bytes.
module _ (old new : FramesState) {spare : ℕ} {devices : List DeviceState}
    (w : IsPool (pool_from old spare devices)) (i : ℕ) (g : FrameState)
    (is : new ≡ record old { frames = set old.frames i g }) (there : i < length old.frames)
    (alike : IsAlike (nth_frame old.frames i) g) where
  pub step_pool : IsPool (pool_from new spare devices)
  step_pool = subst (λ x. IsPool (pool_from x spare devices)) (sym is)
      (set_keeps_pool (pool_from old spare devices) i g (alike_fits (pool_from old spare devices) i g there alike w) w)

  pub step_ranked : g.key ≡ (nth_frame old.frames i).key → (h : HistoryView)
      → RankedBy (pool_from old spare devices) h → RankedBy (pool_from new spare devices) h
  step_ranked key h r = subst (λ x. RankedBy (pool_from x spare devices) h) (sym is)
      (ranked_set (pool_from old spare devices) i g h there (key ∙ r i ∙ ap (option_map (λ p. rank_key p (hist (references_of h) p))) (sym alike.page)) r)

  pub step_view : view_of (pool_from new spare devices)
      ≡ record (view_of (pool_from old spare devices)) {
        frames = set
            (view_of (pool_from old spare devices)).frames i (frame_view g);
      }
  step_view = ap (λ x. view_of (pool_from x spare devices)) is ∙ view-set (pool_from old spare devices) i g alike.page alike.bytes

  step_frame : nth_frame new.frames i ≡ g
  step_frame = ap (λ x. nth_frame x.frames i) is ∙ get_or-set_same old.frames i g (fresh_frame []) there

  pub step_holds : (slot : Slot) → slot.index ≡ i → slot.generation ≡ g.generation → 0 < g.fixes
      → Holds (view_of (pool_from new spare devices)) slot
  step_holds slot at current fixed =
      let seen : frame_at (view_of (pool_from new spare devices)) slot.index ≡ frame_view g =
      ap (frame_at (view_of (pool_from new spare devices))) at ∙ frame_seen (pool_from new spare devices) i ∙ ap frame_view step_frame in
      record {
        there = subst (λ n. slot.index < n) (sym (length-map new.frames frame_view ∙ ap (λ x. length x.frames) is ∙ length-set old.frames i g)) (subst (λ n. n < length old.frames) (sym at) there);
        current = current ∙ sym (ap (λ f. f.generation) seen);
        fixed = subst (λ f. 0 < f.fixes) (sym seen) fixed;
      }

-- the page of a held slot, with fewer or more pins
pub seen_holds : {s v : PoolState} {slot : Slot} → s ≡ v → Holds (view_of v) slot
    → Holds (view_of s) slot
seen_holds {slot = slot} seen held = subst (λ x. Holds (view_of x) slot) (sym seen) held

pub held_there : {s : PoolState} → IsPool s → (slot : Slot) → Holds (view_of s) slot
    → slot.index < length s.frames
held_there {s} w slot h = subst (λ n. slot.index < n) (length-map s.frames frame_view) h.there

pub held_fixed : {s : PoolState} → IsPool s → (slot : Slot) → Holds (view_of s) slot
    → 0 < (nth_frame s.frames slot.index).fixes
held_fixed {s} w slot h = subst (λ f. 0 < f.fixes) (frame_seen s slot.index) h.fixed

-- a frame with one pin fewer or more
pub alike_fixes : {s : PoolState} → IsPool s → (i n : ℕ) → (nth_frame s.frames i).page ≢ None
    → IsAlike (nth_frame s.frames i) (record (nth_frame s.frames i) { fixes = n })
alike_fixes {s} w i n some = record { page = refl; bytes = refl; dirty = refl; bare = λ e. absurd (some e) }

pub held_some : {s : PoolState} → IsPool s → (slot : Slot) → Holds (view_of s) slot
    → (nth_frame s.frames slot.index).page ≢ None
held_some {s} w slot h e =
    let none : (nth_frame s.frames slot.index).fixes ≡ 0 = (w.bare slot.index e).1 in
    let some = held_fixed w slot h in
    absurd (omega arith)

pub seen_fixed : {s : PoolState} → IsPool s → (i : ℕ)
    → record (view_of s) {
      frames = set (view_of s).frames i
          (frame_view (record (nth_frame s.frames i) { fixes = (nth_frame s.frames i).fixes + 1 }));
    }
    ≡ record (view_of s) {
      frames = set (view_of s).frames i
          (record (frame_at (view_of s) i) { fixes = (frame_at (view_of s) i).fixes + 1 });
    }
seen_fixed {s} w i = ap (λ (x : FrameView). let v : PoolView = record (view_of s) { frames = set (view_of s).frames i (record x { fixes = x.fixes + 1 }) } in v) (sym (frame_seen s i))

pub seen_unpinned : {s : PoolState} → IsPool s → (slot : Slot)
    → record (view_of s) {
      frames = set (view_of s).frames slot.index
          (frame_view (record (nth_frame s.frames
          slot.index) { fixes = (nth_frame s.frames slot.index).fixes - 1 }));
    }
    ≡ unpinned (view_of s) slot
seen_unpinned {s} w slot = ap (λ (x : FrameView). let v : PoolView = record (view_of s) { frames = set (view_of s).frames slot.index (record x { fixes = x.fixes - 1 }) } in v) (sym (frame_seen s slot.index))

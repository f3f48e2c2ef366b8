-- The page of a frame is written back.
use Rattle.std.proofs.Common.{◌≡◌, ℕ, ◌<◌, Bool, true, false, IsTrue, List, [], length, map, set, Some, None, Result, Ok, refl, sym, ◌∙◌, ap, subst}
use Rattle.std.proofs.lemmas.Option.{same_Some}
use Rattle.std.proofs.lemmas.List.{set-get_or, get_or-set_same, get_or-set_other}
use Rattle.warm_stamps.specs.declared.PageId.{PageId}
use Rattle.std.proofs.Math.ListN.{get_or-map as mapped}
use Rattle.warm_devices.specs.Device.{DeviceState, CountsFault, page_at, one_more}
use Rattle.warm_devices.specs.declared.fault.DeviceFault.TheVariants.{Write}
use Rattle.warm_devices.specs.declared.fault.DeviceFault.{DeviceFault}
use Rattle.warm_frame_table.specs.Frames.{FrameState, FramesState, nth_frame, fresh_frame}
use Rattle.warm_frame_table.specs.FrameSteps.{cleaned}
use Rattle.warm_pool.specs.State.{PoolState, IsPool, no_device, nth_device}
use Rattle.warm_pool.specs.View.{frame_view, view_of, PoolView, FrameView}
use Rattle.warm_pool.specs.WritingBack.{KeptDevices}
use Rattle.warm_pool.specs.steps.WritingBack.{Cleans, CleanFails, WritesFrame}
use Rattle.warm_pool.specs.DeviceCalls.{PageWrite}
use Rattle.warm_pool.proofs.PoolLemmas.{pool_from, set_keeps_pool, view-set, devices_keep_pool, view_of_kept}
use Rattle.warm_pool.proofs.FlushLemmas.{same_shape, may_fail}
use Rattle.warm_pool.proofs.DeviceCallLemmas.{write_keeps, failures_kept, fails_at}
use Rattle.warm_pool.proofs.LoadLemmas.{Failed, on_ok}

-- a page q in frame i that was written to was written to its device
pub record WroteBack (s : PoolState) (new : List DeviceState) (i : ℕ) (q : PageId) (bytes : List ℕ)
    (result : Result (Unit {0}) DeviceFault) : Type 0 where
  pub pool : IsPool s
  pub there : i < length s.frames
  pub holds : (nth_frame s.frames i).page ≡ Some q
  pub dirty : (nth_frame s.frames i).dirty ≡ true
  pub bytes_are : bytes ≡ (nth_frame s.frames i).bytes
  pub call : PageWrite s.devices new q.dev q.no bytes result

pub wrote_back : {s : PoolState} {new : List DeviceState} {i : ℕ} {q : PageId} {bytes : List ℕ}
    {result : Result (Unit {0}) DeviceFault}
    → IsPool s → i < length s.frames → (nth_frame s.frames i).page ≡ Some q
    → (nth_frame s.frames i).dirty ≡ true → bytes ≡ (nth_frame s.frames i).bytes
    → PageWrite s.devices new q.dev q.no bytes result → WroteBack s new i q bytes result
wrote_back pool there page dirty bytes call = record { pool = pool; there = there; holds = page; dirty = dirty; bytes_are = bytes; call = call }

module _ (s : PoolState) (new : List DeviceState) (i : ℕ) (q : PageId) (bytes : List ℕ)
    (result : Result (Unit {0}) DeviceFault)
    (h : WroteBack s new i q bytes result) where
  kept : KeptDevices s.frames s.devices new
  kept = write_keeps s new i q bytes result h.pool h.holds h.dirty h.call

  device : q.dev < length s.devices
  device = h.pool.has_device i q h.holds

  pub failed_pool : IsPool (record s { devices = new })
  failed_pool = devices_keep_pool s new kept h.pool

  after_is : nth_device new q.dev ≡ h.call.after
  after_is = ap (λ ds. nth_device ds q.dev) h.call.becomes ∙ get_or-set_same s.devices q.dev h.call.after no_device device

  waits : (nth_device new q.dev).waiting ≡ true
  waits = ap (λ d. d.waiting) after_is ∙ h.call.call.waiting

  pub write_failed : Failed result → CleanFails s i (record s { devices = new })
  write_failed f = record {
    page = q;
    holds = h.holds;
    dirty = h.dirty;
    frames = refl;
    waits = waits;
    others = λ k ne. ap (λ ds. nth_device ds k) h.call.becomes ∙ get_or-set_other s.devices q.dev k h.call.after no_device ne;
    fails = fails_at s new q.dev h.call.after device h.call.becomes kept (may_fail (nth_device s.devices q.dev).unfailing f.fault result f.is h.call.call.unfailing) grown;
  }
    where
      grown : h.call.after.failures ≡ one_more (nth_device s.devices q.dev).failures
      grown = (subst (λ r. CountsFault Write r (nth_device s.devices q.dev) h.call.after) f.is h.call.call.faults).1

  module _ (ok : result ≡ Ok tt) where
    on_device : IsTrue (nth_device new q.dev).honest
        → (nth_frame s.frames i).bytes ≡ page_at (nth_device new q.dev).contents q.no
    on_device o =
        sym h.bytes_are ∙ sym (on_ok result ok h.call.call.written (subst IsTrue (kept.shape q.dev).honest o)) ∙ ap (λ d. page_at d.contents q.no) (sym after_is)

    pub cleaned_pool : IsPool
        (record s { frames = set s.frames i (cleaned (nth_frame s.frames i)); devices = new })
    cleaned_pool = set_keeps_pool (record s { devices = new }) i (cleaned (nth_frame s.frames i)) (record {
      there = h.there;
      size = h.pool.frame_size i h.there;
      has_device = λ p e. failed_pool.has_device i p e;
      has_page = λ p e. failed_pool.has_page i p e;
      once = λ j p ne e o. ne (h.pool.once j i p o e);
      clean = λ p e _. subst (λ r. IsTrue (nth_device new r.dev).honest → (nth_frame s.frames i).bytes ≡ page_at (nth_device new r.dev).contents r.no)
          (same_Some q p (sym h.holds ∙ e)) on_device;
      bare = λ e. let no : None ≡ Some q = sym e ∙ h.holds in absurd (cc);
    }) failed_pool

    pub write_cleans : Cleans s i
        (record s { frames = set s.frames i (cleaned (nth_frame s.frames i)); devices = new })
    write_cleans = record {
      frames = refl;
      devices = kept;
      untouched = λ clean. let bad : true ≡ false = sym h.dirty ∙ clean in absurd (cc);
      waits = λ _ p at. ap (λ r. (nth_device new r.dev).waiting) (same_Some p q (sym at ∙ h.holds)) ∙ waits;
      failures = failures_kept s.devices new q.dev h.call.after h.call.becomes same;
      same = (refl, refl);
    }
      where
        same : h.call.after.failures ≡ (nth_device s.devices q.dev).failures
        same = subst (λ r. CountsFault Write r (nth_device s.devices q.dev) h.call.after) ok h.call.call.faults

-- a frame that isn't dirty is clean already
pub already_clean : (s : PoolState) (i : ℕ) → (nth_frame s.frames i).dirty ≡ false → Cleans s i s
already_clean s i e = record {
  frames = sym (ap (set s.frames i) same ∙ set-get_or s.frames i (fresh_frame []));
  devices = record { count = refl; shape = λ k. same_shape (nth_device s.devices k); absent = λ p _. refl; clean = λ j p _ _. refl };
  untouched = λ _. refl;
  waits = λ dirty _ _. let bad : true ≡ false = sym dirty ∙ e in absurd (cc);
  failures = refl;
  same = (refl, refl);
}
  where
    same : cleaned (nth_frame s.frames i) ≡ nth_frame s.frames i
    same = ap (λ (t : Bool). let f : FrameState = record (nth_frame s.frames i) { dirty = t } in f) (sym e)

-- what a caller sees stays
pub cleans_view : (s t : PoolState) (i : ℕ) → Cleans s i t → view_of t ≡ view_of s
cleans_view s t i c =
    (λ j. view_of (record { page_size = c.same.0 j; spare = t.spare; frames = c.frames j; devices = t.devices }))
    ∙ view-set (record s { devices = t.devices }) i (cleaned (nth_frame s.frames i)) refl refl
    ∙ ap (λ (frames : List FrameView). let v : PoolView = record (view_of (record s { devices = t.devices })) { frames = frames } in v) unseen
    ∙ view_of_kept s t.devices c.devices
    ∙ ap (λ (failures : List ℕ). let v : PoolView = record (view_of s) { failures = failures } in v) c.failures
  where
    unseen : set (map frame_view s.frames) i (frame_view (nth_frame s.frames i))
        ≡ map frame_view s.frames
    unseen = ap (set (map frame_view s.frames) i) (sym (mapped frame_view s.frames i (fresh_frame []))) ∙ set-get_or (map frame_view s.frames) i (frame_view (fresh_frame []))

-- the same, of a pool whose frames are given by an equation
pub cleaned_to : (old new : FramesState) {spare : ℕ} {devices ds : List DeviceState} {i : ℕ}
    {q : PageId} {bytes : List ℕ} {result : Result (Unit {0}) DeviceFault}
    → WroteBack (pool_from old spare devices) ds i q bytes result → result ≡ Ok tt
    → new ≡ record old { frames = set old.frames i (cleaned (nth_frame old.frames i)) }
    → IsPool (pool_from new spare ds)
    × Cleans (pool_from old spare devices) i (pool_from new spare ds)
cleaned_to old new {spare} {devices} {ds} {i} {q} {bytes} {result} h ok e =
    subst (λ x. IsPool (pool_from x spare ds) × Cleans (pool_from old spare devices) i (pool_from x spare ds)) (sym e)
    (cleaned_pool (pool_from old spare devices) ds i q bytes result h ok, write_cleans (pool_from old spare devices) ds i q bytes result h ok)

-- the call of the device, if one was made
pub wrote_frame : (f : FrameState) (old new : List DeviceState) (q : PageId) (bytes : List ℕ)
    (result : Result (Unit {0}) DeviceFault) → f.page ≡ Some q → bytes ≡ f.bytes
    → PageWrite old new q.dev q.no bytes result → WritesFrame f old new result
wrote_frame f old new q bytes result holds is call p at dirty =
    subst (λ (r : PageId). PageWrite old new r.dev r.no f.bytes result) (same_Some q p (sym holds ∙ at))
    (subst (λ (given : List ℕ). PageWrite old new q.dev q.no given result) is call)

pub no_page : (f : FrameState) (old new : List DeviceState)
    (result : Result (Unit {0}) DeviceFault) → f.page ≡ None → WritesFrame f old new result
no_page f old new result none p at dirty = let no : None ≡ Some p = sym none ∙ at in absurd (cc)

pub no_write : (f : FrameState) (old new : List DeviceState)
    (result : Result (Unit {0}) DeviceFault) → f.dirty ≡ false → WritesFrame f old new result
no_write f old new result clean p at dirty = let no : true ≡ false = sym dirty ∙ clean in absurd (cc)

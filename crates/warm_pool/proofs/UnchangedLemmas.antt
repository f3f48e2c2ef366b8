-- What a call leaves unchanged, from its steps.
use Rattle.std.proofs.Common.{◌≡◌, ℕ, ◌+◌, ◌<◌, false, List, [], length, set, Some, Result, IfErr, refl, sym, ◌∙◌, ap, subst}
use Rattle.std.proofs.lemmas.List.{get_or-set_same, get_or-set_other}
use Rattle.warm_stamps.specs.declared.PageId.{PageId}
use Rattle.warm_history.specs.Histories.{HistoryView}
use Rattle.warm_rank.specs.declared.RankKey.{RankKey}
use Rattle.warm_frame_table.specs.Frames.{FrameState, FramesState, nth_frame, fresh_frame}
use Rattle.warm_frame_table.proofs.ListLemmas.{at_set}
use Rattle.warm_pool.specs.declared.slot.Slot.{Slot}
use Rattle.warm_pool.specs.declared.fault.PoolFault.{PoolFault}
use Rattle.warm_pool.specs.declared.fault.PoolFault.TheVariants.{ReadFault, WriteBack}
use Rattle.warm_pool.specs.State.{PoolState, IsNowhere}
use Rattle.warm_pool.specs.View.{view_of, HasPage}
use Rattle.warm_pool.specs.Unchanged.{KeepsOthers, KeepsBytes}
use Rattle.warm_pool.specs.WritingBack.{WaitsFor}
use Rattle.warm_pool.specs.steps.WritingBack.{WriteFails}
use Rattle.warm_devices.specs.Device.{DeviceState}
use Rattle.warm_pool.specs.Calls.{FlushesNone}
use Rattle.warm_pool.specs.DeviceCalls.{read_at}
use Rattle.warm_pool.specs.Pinning.{IsFrameToLoad, LoadRefused, TakesFrame, LeavesDevices, IsUnwritten}
use Rattle.warm_pool.specs.steps.Pinning.{FixRefused, LoadsInto, FetchFails}
use Rattle.warm_pool.proofs.PageByteLemmas.{absent_seen, frame_seen}
use Rattle.warm_pool.proofs.FlushLemmas.{if_err}
use Rattle.warm_pool.proofs.PoolLemmas.{pool_from}
use Rattle.warm_pool.proofs.CallLemmas.{same_none}

pub same_bytes : (s : PoolState) → KeepsBytes s s
same_bytes s = record { devices = refl; bytes = λ i. refl; dirty = λ i. refl }

pub more_bytes : (s t u : PoolState) → KeepsBytes s t → KeepsBytes t u → KeepsBytes s u
more_bytes s t u a b = record { devices = b.devices ∙ a.devices; bytes = λ i. b.bytes i ∙ a.bytes i; dirty = λ i. b.dirty i ∙ a.dirty i }

-- a step that changes one frame, but neither its bytes nor its dirty flag
pub step_kept : (old new : FramesState) {spare : ℕ} {devices : List DeviceState} (i : ℕ)
    (g : FrameState) → new ≡ record old { frames = set old.frames i g } → i < length old.frames
    → g.bytes ≡ (nth_frame old.frames i).bytes → g.dirty ≡ (nth_frame old.frames i).dirty
    → KeepsBytes (pool_from old spare devices) (pool_from new spare devices)
step_kept old new {spare} {devices} i g is there bytes dirty =
    subst (λ x. KeepsBytes (pool_from old spare devices) (pool_from x spare devices)) (sym is) (record {
      devices = refl;
      bytes = at_set (fresh_frame []) (λ j x. x.bytes ≡ (nth_frame old.frames j).bytes) old.frames i g there bytes (λ j ne. refl);
      dirty = at_set (fresh_frame []) (λ j x. x.dirty ≡ (nth_frame old.frames j).dirty) old.frames i g there dirty (λ j ne. refl);
    })

-- a resident page was given a slot
pub stays_in_frame : (s t : PoolState) (i : ℕ) (p : PageId) (slot : Slot)
    → (nth_frame s.frames i).page ≡ Some p → KeepsOthers slot.index s t → KeepsBytes s t
    → TakesFrame s p slot t
stays_in_frame s t i p slot holds others kept = record {
  others = others;
  resident = λ _. kept;
  clean = λ away. absurd (away i (ap (λ f. f.page) (frame_seen s i) ∙ holds));
  devices = λ away. absurd (away i (ap (λ f. f.page) (frame_seen s i) ∙ holds));
  waits = λ away. absurd (away i (ap (λ f. f.page) (frame_seen s i) ∙ holds));
  unflushed = same_none kept.devices;
}

-- a page was loaded into a frame
pub loaded_takes : (s t : PoolState) (i : ℕ) (p : PageId) (key : RankKey) (n : ℕ)
    → LoadsInto s (read_at p.dev s.devices) i p key n t → i < length s.frames → IsNowhere s.frames p
    → FlushesNone s.devices t.devices → (slot : Slot) → slot.index ≡ i → TakesFrame s p slot t
loaded_takes s t i p key n l there away none slot at =
    let came : FrameState = record { page = Some p; key = Some key; generation = (nth_frame s.frames i).generation + 1; fixes = n; dirty = false; bytes = l.bytes } in record {
      others = λ j ne. ap (λ fs. nth_frame fs j) l.frames ∙ get_or-set_other s.frames i j came (fresh_frame []) (λ e. ne (e ∙ sym at));
      resident = λ r. absurd (absent_seen s p away r.frame r.holds);
      clean = λ _. ap (λ k. (nth_frame t.frames k).dirty) at ∙ ap (λ fs. (nth_frame fs i).dirty) l.frames ∙ ap (λ f. f.dirty) (get_or-set_same s.frames i came (fresh_frame []) there);
      devices = λ _ clean. l.devices (sym (ap (λ k. (nth_frame s.frames k).dirty) at) ∙ clean);
      waits = λ _. subst (λ k. WaitsFor s k t.devices) (sym at) l.waits;
      unflushed = none;
    }

-- a refusal of a page that no device has, and one for its pin count, leave the devices unchanged
pub unknown_leaves : (h : HistoryView) (s : PoolState) (p : PageId) → (HasPage (view_of s) p → ⊥)
    → (why : PoolFault) → LoadRefused h (view_of s) p why (view_of s) → LeavesDevices h s p why s
unknown_leaves h s p hasnt ReadFault refused = absurd (hasnt refused.0)
unknown_leaves h s p hasnt WriteBack refused = absurd (hasnt refused.0)
unknown_leaves h s p hasnt why refused = refl

pub full_leaves : (h : HistoryView) (s t : PoolState) (i : ℕ) (p : PageId) {T : Type 0}
    (r : Result T PoolFault) → IfErr r (λ why. FixRefused s i why t)
    → IfErr r (λ why. LeavesDevices h s p why t)
full_leaves h s t i p r x = if_err _ _ r x (λ why full. subst (λ y. LeavesDevices h s p y t) (sym full.0) (ap (λ u. u.devices) full.2))

-- a failed write of the page that would leave
pub unwritten : (h : HistoryView) (s : PoolState) (before : List DeviceState) (t : PoolState)
    (i : ℕ) → IsFrameToLoad h (view_of s) (Some i) → FlushesNone s.devices t.devices
    → WriteFails s before i t → IsUnwritten h s before t
unwritten h s before t i to_load none l =
    record { frame = i; page = l.page; to_load = to_load; holds = l.holds; dirty = l.dirty; waits = l.waits; others = l.others; unflushed = none }

-- what a failed read, or a failed write of the page that would leave, leaves of the devices
pub failed_leaves : (h : HistoryView) (s t : PoolState) (i : ℕ) (p : PageId)
    → IsFrameToLoad h (view_of s) (Some i) → FlushesNone s.devices t.devices
    → (why : PoolFault) → FetchFails s (read_at p.dev s.devices) i p why t
    → LeavesDevices h s p why t
failed_leaves h s t i p to_load none ReadFault l = l.devices
failed_leaves h s t i p to_load none WriteBack l = unwritten h s (read_at p.dev s.devices) t i to_load none l
failed_leaves h s t i p to_load none why l = absurd l

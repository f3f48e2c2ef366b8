-- What a call of one device does to a list of devices, and to a pool over them.
use Rattle.std.proofs.Common.{◌≡◌, ◌≢◌, ℕ, ◌+◌, ◌<◌, cond, Bool, true, false, List, [], ◌++◌, length, map, set, get_or, take, drop, Some, Result, Ok, Err, OnOk, refl, sym, ◌∙◌, ap, subst, inl, inr, arith}
use Rattle.std.proofs.Math.Path.{ap₂}
use Rattle.std.proofs.Math.ListN.{get_or-map as mapped}
use Rattle.std.proofs.lemmas.Grind.{common_steps}
use Rattle.std.proofs.lemmas.Bool.{cases_eq}
use Rattle.std.proofs.lemmas.List.{length-set, length-map, map-set, set-get_or, get_or_read}
use Rattle.warm_stamps.specs.declared.PageId.{PageId}
use Rattle.warm_devices.specs.declared.fault.DeviceFault.TheVariants.{Read}
use Rattle.warm_devices.specs.Calls.{one_call}
use Rattle.warm_devices.specs.Device.{DeviceState, SameShape, CountsFault, page_at, one_more}
use Rattle.warm_devices.specs.declared.fault.DeviceFault.{DeviceFault}
use Rattle.warm_frame_table.specs.Frames.{FrameState, nth_frame}
use Rattle.warm_frame_table.proofs.ListLemmas.{at_set}
use Rattle.warm_pool.specs.State.{PoolState, IsPool, no_device, nth_device}
use Rattle.warm_pool.specs.View.{stored, view_of, device_view, PoolView}
use Rattle.warm_pool.specs.Unchanged.{FailsAt}
use Rattle.warm_pool.specs.WritingBack.{KeptDevices}
use Rattle.warm_pool.specs.DeviceCalls.{PageRead, PageWrite, ReadsPage, WritesPage, failed_at, read_at}
use Rattle.warm_pool.proofs.FlushLemmas.{same_shape}
use Rattle.warm_pool.proofs.PageByteLemmas.{same_page, device_seen}
use Rattle.warm_pool.proofs.PoolLemmas.{view_of_kept}

-- the device that a read of the list gave
pub device_is : {B : Type 0} (shown : B → DeviceState) (bs : List B) (k : ℕ) (b : B) → k < length bs
    → b ≡ get_or bs k b
    → shown b ≡ nth_device (map shown bs) k
device_is shown bs k b h e =
    get_or_read (map shown bs) k (shown b) (subst (λ n. k < n) (sym (length-map bs shown)) h) (ap shown e ∙ sym (mapped shown bs k b)) no_device

-- a slice of a whole `Vec` that was borrowed, when the borrow ends
pub lent_whole : {A : Type 0} (n : ℕ) (new old : List A) → n ≡ length old → length new ≡ length old
    → take n (new ++ drop (length new) old) ≡ new
lent_whole n new old e h = grind (arith, common_steps)

pub lent_bytes : {T E : Type 0} (P : Type 0) (result : Result T E) (n : ℕ) (new old there : List ℕ)
    → n ≡ length old → length new ≡ length old
    → OnOk result (P → new ≡ there)
    → OnOk result (P → take n (new ++ drop (length new) old) ≡ there)
lent_bytes {T} {E} P result n new old there e h k = subst (λ l. OnOk result (P → l ≡ there)) (sym (lent_whole n new old e h)) k

-- one device of a list changed to another of its shape
pub shapes_set : (old new : List DeviceState) (k : ℕ) (e : DeviceState) → k < length old
    → new ≡ set old k e → SameShape (nth_device old k) e
    → (j : ℕ) → SameShape (nth_device old j) (nth_device new j)
shapes_set old new k e h is shape j =
    subst (λ ds. SameShape (nth_device old j) (nth_device ds j)) (sym is)
    (at_set no_device (λ j d. SameShape (nth_device old j) d) old k e h shape (λ j ne. same_shape (nth_device old j)) j)

-- what a device is known to have for a page
abbrev pub known_bytes : DeviceState → ℕ → List ℕ
known_bytes d n = cond d.honest (page_at d.contents n) []

pub stored_set : (old new : List DeviceState) (k : ℕ) (e : DeviceState) → k < length old
    → new ≡ set old k e → SameShape (nth_device old k) e
    → (p : PageId) → (p.dev ≡ k
    → page_at e.contents p.no ≡ page_at (nth_device old k).contents p.no)
    → stored new p ≡ stored old p
stored_set old new k e h is shape p same =
    subst (λ ds. stored ds p ≡ stored old p) (sym is)
    (at_set no_device (λ j d. p.dev ≡ j → known_bytes d p.no ≡ known_bytes (nth_device old j) p.no) old k e h
    (λ here. ap₂ (λ (t : Bool) (bytes : List ℕ). cond t bytes []) shape.honest (same here)) (λ j ne _. refl) p.dev refl)

pub read_keeps : (frames : List FrameState) (old new : List DeviceState) (k n : ℕ) (bytes : List ℕ)
    (result : Result (Unit {0}) DeviceFault)
    → k < length old → PageRead old new k n bytes result → KeptDevices frames old new
read_keeps frames old new k n bytes result h r =
    let all : (p : PageId) → stored new p ≡ stored old p = λ p. stored_set old new k r.after h r.becomes r.call.shape p (λ _. ap (λ c. page_at c p.no) r.call.contents) in
    record {
      count = ap length r.becomes ∙ length-set old k r.after;
      shape = shapes_set old new k r.after h r.becomes r.call.shape;
      absent = λ p _. all p;
      clean = λ i p _ _. all p;
    }

-- a written page is that of one frame, which is dirty
pub write_keeps : (s : PoolState) (new : List DeviceState) (i : ℕ) (q : PageId) (bytes : List ℕ)
    (result : Result (Unit {0}) DeviceFault)
    → IsPool s → (nth_frame s.frames i).page ≡ Some q → (nth_frame s.frames i).dirty ≡ true
    → PageWrite s.devices new q.dev q.no bytes result → KeptDevices s.frames s.devices new
write_keeps s new i q bytes result w holds dirty r =
    let there : q.dev < length s.devices = w.has_device i q holds in
    let others : (p : PageId) → p ≢ q → stored new p ≡ stored s.devices p = λ p ne.
    stored_set s.devices new q.dev r.after there r.becomes r.call.shape p
    (λ e. r.call.others.others p.no (λ n. ne (same_page p q e n))) in
    record {
      count = ap length r.becomes ∙ length-set s.devices q.dev r.after;
      shape = shapes_set s.devices new q.dev r.after there r.becomes r.call.shape;
      absent = λ p away. others p (λ e. away i (holds ∙ ap Some (sym e)));
      clean = λ j p at not. others p (λ e.
          let same : j ≡ i = w.once j i q (at ∙ ap Some e) holds in
          let bad : true ≡ false = sym dirty ∙ ap (λ n. (nth_frame s.frames n).dirty) (sym same) ∙ not in
          absurd (cc));
    }

-- the counts of failures after a call of one device
pub failures_kept : (old new : List DeviceState) (k : ℕ) (e : DeviceState) → new ≡ set old k e
    → e.failures ≡ (nth_device old k).failures
    → map (λ d. d.failures) new ≡ map (λ d. d.failures) old
failures_kept old new k e is same =
    ap (map (λ (d : DeviceState). d.failures)) is ∙ map-set (λ (d : DeviceState). d.failures) old k e
    ∙ ap (set (map (λ (d : DeviceState). d.failures) old) k) (same ∙ sym (mapped (λ (d : DeviceState). d.failures) old k no_device))
    ∙ set-get_or (map (λ (d : DeviceState). d.failures) old) k 0

pub failures_grown : (old new : List DeviceState) (k : ℕ) (e : DeviceState) → new ≡ set old k e
    → e.failures ≡ one_more (nth_device old k).failures
    → map (λ d. d.failures) new
    ≡ set (map (λ d. d.failures) old) k (one_more (get_or (map (λ d. d.failures) old) k 0))
failures_grown old new k e is more =
    ap (map (λ (d : DeviceState). d.failures)) is ∙ map-set (λ (d : DeviceState). d.failures) old k e
    ∙ ap (set (map (λ (d : DeviceState). d.failures) old) k) (more ∙ ap one_more (sym (mapped (λ (d : DeviceState). d.failures) old k no_device)))

-- what a caller sees if the call failed
pub fails_at : (s : PoolState) (new : List DeviceState) (k : ℕ) (e : DeviceState)
    → k < length s.devices → new ≡ set s.devices k e
    → KeptDevices s.frames s.devices new → (nth_device s.devices k).unfailing ≡ false
    → e.failures ≡ one_more (nth_device s.devices k).failures
    → FailsAt (view_of s) k (view_of (record s { devices = new }))
fails_at s new k e h is kept may more = record {
  there = subst (λ n. k < n) (sym (length-map s.devices device_view)) h;
  may = ap (λ d. d.unfailing) (device_seen s k) ∙ may;
  becomes = view_of_kept s new kept
      ∙ ap (λ (failures : List ℕ). let v : PoolView = record (view_of s) { failures = failures } in v) (failures_grown s.devices new k e is more);
}

-- what a caller sees if the call didn't fail
pub same_view : (s : PoolState) (new : List DeviceState) (k : ℕ) (e : DeviceState)
    → new ≡ set s.devices k e
    → KeptDevices s.frames s.devices new → e.failures ≡ (nth_device s.devices k).failures
    → view_of (record s { devices = new }) ≡ view_of s
same_view s new k e is kept same =
    view_of_kept s new kept
    ∙ ap (λ (failures : List ℕ). let v : PoolView = record (view_of s) { failures = failures } in v) (failures_kept s.devices new k e is same)

-- a device of which a page was read is unchanged, except for its failures and its calls
read_after : {old new : List DeviceState} {k n : ℕ} {bytes : List ℕ}
    {result : Result (Unit {0}) DeviceFault} (r : PageRead old new k n bytes result) (failures : ℕ)
    → r.after.failures ≡ failures
    → r.after ≡ record (nth_device old k) { failures = failures; calls = one_call Read (nth_device old k).calls }
read_after r failures is i = record {
  pages = r.call.shape.pages i;
  page_size = r.call.shape.page_size i;
  contents = r.call.contents i;
  waiting = r.call.waiting i;
  failures = is i;
  calls = r.call.calls i;
  honest = r.call.shape.honest i;
  unfailing = r.call.shape.unfailing i;
}

pub read_once : (old new : List DeviceState) (k n : ℕ) (bytes : List ℕ)
    (result : Result (Unit {0}) DeviceFault)
    → PageRead old new k n bytes result → result ≡ Ok tt → new ≡ read_at k old
read_once old new k n bytes result r ok =
    let failures : r.after.failures ≡ (nth_device old k).failures = subst (λ x. CountsFault Read x (nth_device old k) r.after) ok r.call.faults in
    r.becomes ∙ ap (set old k) (read_after r (nth_device old k).failures failures)

-- if it was not read, a failure is counted
pub read_counted : (old new : List DeviceState) (k n : ℕ) (bytes : List ℕ)
    (result : Result (Unit {0}) DeviceFault) (fault : DeviceFault)
    → PageRead old new k n bytes result → result ≡ Err fault → new ≡ failed_at k old
read_counted old new k n bytes result fault r failed =
    let counts = subst (λ x. CountsFault Read x (nth_device old k) r.after) failed r.call.faults in
    r.becomes ∙ ap (set old k) (read_after r (one_more (nth_device old k).failures) counts.1)

-- what a call of one device says, of that device in the list
pub page_read : (old new : List DeviceState) (k n : ℕ) (d after : DeviceState) (bytes : List ℕ)
    (result : Result (Unit {0}) DeviceFault)
    → d ≡ nth_device old k → new ≡ set old k after → ReadsPage d after n bytes result
    → PageRead old new k n bytes result
page_read old new k n d after bytes result e is given = record { after = after; becomes = is; call = subst (λ x. ReadsPage x after n bytes result) e given }

pub page_written : (old new : List DeviceState) (k n : ℕ) (d after : DeviceState) (bytes : List ℕ)
    (result : Result (Unit {0}) DeviceFault)
    → d ≡ nth_device old k → new ≡ set old k after → WritesPage d after n bytes result
    → PageWrite old new k n bytes result
page_written old new k n d after bytes result e is given = record { after = after; becomes = is; call = subst (λ x. WritesPage x after n bytes result) e given }

-- all devices up to one more have this size
pub sized_more : {B : Type 0} (shown : B → DeviceState) (size : ℕ) (bs : List B) (i : ℕ) (b : B)
    → b ≡ get_or bs i b → i < length bs → (shown b).page_size ≡ size
    → ((k : ℕ) → k < i → (nth_device (map shown bs) k).page_size ≡ size) → (k : ℕ) → k < i + 1
    → (nth_device (map shown bs) k).page_size ≡ size
sized_more shown size bs i b e h s all k lt = elim (cases_eq k i) [
  | inl same ↦ ap (λ n. (nth_device (map shown bs) n).page_size) same ∙ ap (λ d. d.page_size) (sym (device_is shown bs i b h e)) ∙ s
  | inr ne ↦ all k (omega arith)
]

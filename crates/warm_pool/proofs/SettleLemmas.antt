-- A pool whose pages were written back, and whose devices were flushed, is unchanged for a caller.
use Rattle.std.proofs.Common.{◌≡◌, ◌≢◌, ℕ, zero, suc, ◌<◌, ◌≤◌, cond, Bool, true, false, List, [], ◌∷◌, length, map, set, get_or, refl, sym, ap, ◌∙◌, subst, inl, inr, arith}
use Rattle.std.proofs.Math.Path.{ap₂}
use Rattle.std.specs.Option.{option_map}
use Rattle.std.proofs.lemmas.Bool.{cases_eq, cases_lt}
use Rattle.std.proofs.lemmas.List.{length-set, length-map, map-set, get_or_past}
use Rattle.std.proofs.Math.ListN.{get_or-map as mapped}
use Rattle.warm_stamps.specs.declared.PageId.{PageId}
use Rattle.warm_history.specs.Histories.{HistoryView, hist, references_of}
use Rattle.warm_rank.specs.Keys.{rank_key}
use Rattle.warm_devices.specs.Device.{DeviceState, SameShape, one_more, page_at}
use Rattle.warm_frame_table.specs.declared.selection.Devices.{Devices}
use Rattle.warm_frame_table.specs.declared.selection.Devices.TheVariants.{All}
use Rattle.warm_frame_table.specs.Frames.{FrameState, nth_frame}
use Rattle.warm_frame_table.specs.FrameSteps.{cleaned}
use Rattle.warm_frame_table.specs.Selection.{selects}
use Rattle.warm_frame_table.proofs.ListLemmas.{at_set, same_maps}
use Rattle.warm_pool.specs.State.{PoolState, IsSettled, nth_device, no_device}
use Rattle.warm_pool.specs.View.{stored, view_of, frame_view, is_page, bytes_in, PoolView, FrameView}
use Rattle.warm_pool.specs.Unchanged.{FailsAt}
use Rattle.warm_pool.specs.WritingBack.{WriteBackFails, KeptDevices, WritesBack, clean_if, cleaned_selected}
use Rattle.warm_pool.specs.steps.Flushes.{FlushedTo, FlushStops, NoneWaits}
use Rattle.warm_pool.proofs.FlushLemmas.{same_shape}
use Rattle.warm_pool.proofs.ClosingLemmas.{clean_each, nth_page, kept_both}
use Rattle.warm_pool.proofs.PageByteLemmas.{contents_same, device_seen}
use Rattle.warm_pool.proofs.PoolLemmas.{view_of_kept}

-- Frames that may have been cleaned

seen_clean : (which : Devices) (f : FrameState) → frame_view (clean_if which f) ≡ frame_view f
seen_clean which f = elim (selects which f.page) as (λ t. frame_view (cond t (cleaned f) f) ≡ frame_view f) [ true ↦ refl | false ↦ refl ]

held_clean : (which : Devices) (f : FrameState) (p : PageId) (others : List ℕ)
    → cond (is_page p (clean_if which f).page) (clean_if which f).bytes others
    ≡ cond (is_page p f.page) f.bytes others
held_clean which f p others = elim (selects which f.page) as (λ t. cond (is_page p (cond t (cleaned f) f).page) (cond t (cleaned f) f).bytes others ≡ cond (is_page p f.page) f.bytes others) [ true ↦ refl | false ↦ refl ]

seen_to : (which : Devices) (n : ℕ) (frames : List FrameState)
    → map frame_view (cleaned_selected which n frames) ≡ map frame_view frames
seen_to which zero frames = refl
seen_to which (suc n) [] = refl
seen_to which (suc n) (f ∷ frames) = ap₂ (λ (x : FrameView) (rest : List FrameView). x ∷ rest) (seen_clean which f) (seen_to which n frames)

bytes_to : (which : Devices) (n : ℕ) (frames : List FrameState) (p : PageId) (others : List ℕ)
    → bytes_in (cleaned_selected which n frames) p others ≡ bytes_in frames p others
bytes_to which zero frames p others = refl
bytes_to which (suc n) [] p others = refl
bytes_to which (suc n) (f ∷ frames) p others = held_clean which f p (bytes_in (cleaned_selected which n frames) p others) ∙ ap (λ rest. cond (is_page p f.page) f.bytes rest) (bytes_to which n frames p others)

pub all_clean : (frames : List FrameState) (i : ℕ)
    → (nth_frame (cleaned_selected All (length frames) frames) i).dirty ≡ false
all_clean [] i = refl
all_clean (f ∷ frames) zero = refl
all_clean (f ∷ frames) (suc i) = all_clean frames i

-- Pages that were written back

abbrev made : ℕ → ℕ → List FrameState → List DeviceState → PoolState
made size spare frames devices = record { page_size = size; spare = spare; frames = frames; devices = devices }

clean_view : (which : Devices) (n : ℕ) (s : PoolState)
    → view_of (record s { frames = cleaned_selected which n s.frames }) ≡ view_of s
clean_view which n s =
    ap₂ (λ (frames : List FrameView) (contents : List (List (List ℕ))). let v : PoolView = record (view_of s) { frames = frames; contents = contents } in v)
    (seen_to which n s.frames)
    (contents_same s.frames (cleaned_selected which n s.frames) s.devices s.devices refl (λ k. refl) (λ p. bytes_to which n s.frames p (stored s.devices p)))

pub down_view : (which : Devices) (n : ℕ) (s t : PoolState)
    → WritesBack (cleaned_selected which n s.frames) s t → view_of t ≡ view_of s
down_view which n s t down =
    let frames : view_of t ≡ view_of (made s.page_size s.spare (cleaned_selected which n s.frames) t.devices) = λ i. view_of (made (down.same.0 i) (down.same.1 i) (down.becomes i) t.devices) in
    let failures : record (view_of s) { failures = map (λ d. d.failures) t.devices } ≡ view_of s = λ i. record (view_of s) { failures = down.failures i } in
    frames ∙ clean_view which n (record s { devices = t.devices }) ∙ view_of_kept s t.devices down.devices ∙ failures

pub ranked_to : (which : Devices) (n : ℕ) (old new : List FrameState) (h : HistoryView)
    → new ≡ cleaned_selected which n old
    → ((i : ℕ) → (nth_frame old i).key
    ≡ option_map (λ p. rank_key p (hist (references_of h) p)) (nth_frame old i).page)
    → (i : ℕ) → (nth_frame new i).key
    ≡ option_map (λ p. rank_key p (hist (references_of h) p)) (nth_frame new i).page
ranked_to which n old new h becomes ranked i =
    subst (λ frames. (nth_frame frames i).key ≡ option_map (λ p. rank_key p (hist (references_of h) p)) (nth_frame frames i).page) (sym becomes)
    (clean_each (λ f. f.key ≡ (nth_frame old i).key) which n old i refl refl ∙ ranked i ∙ ap (option_map (λ p. rank_key p (hist (references_of h) p))) (sym (nth_page which n old i)))

-- Devices that were flushed

pub record AreAlike (old new : List DeviceState) : Type 0 where
  pub count : length new ≡ length old
  pub each : (k : ℕ) → SameShape (nth_device old k) (nth_device new k)
      × ((nth_device new k).contents ≡ (nth_device old k).contents)

pub alike_kept : (frames : List FrameState) (old new : List DeviceState) → AreAlike old new
    → KeptDevices frames old new
alike_kept frames old new alike =
    let stays : (p : PageId) → stored new p ≡ stored old p = λ p. ap₂ (λ (honest : Bool) (contents : List (List ℕ)). cond honest (page_at contents p.no) []) (alike.each p.dev).0.honest (alike.each p.dev).1 in
    record { count = alike.count; shape = λ k. (alike.each k).0; absent = λ p away. stays p; clean = λ i p holds is. stays p }

-- a device that is unchanged
untouched : (d e : DeviceState) → e ≡ d → SameShape d e × (e.contents ≡ d.contents)
untouched d e is = (subst (λ x. SameShape d x) (sym is) (same_shape d), ap (λ x. x.contents) is)

pub flushed_alike : (n : ℕ) (old new : List DeviceState) → FlushedTo n old new → AreAlike old new
flushed_alike n old new to = record {
  count = to.count;
  each = λ k. elim (cases_lt k n) [
    | inl lt ↦ ((to.done k lt).shape, (to.done k lt).contents)
    | inr ge ↦ untouched (nth_device old k) (nth_device new k) (to.rest k ge)
  ];
}

pub flushed_failures : (n : ℕ) (old new : List DeviceState) → FlushedTo n old new
    → map (λ d. d.failures) new ≡ map (λ d. d.failures) old
flushed_failures n old new to = same_maps (λ d. d.failures) no_device new old to.count (λ k. elim (cases_lt k n) [
  | inl lt ↦ (to.done k lt).failures
  | inr ge ↦ ap (λ d. d.failures) (to.rest k ge)
])

pub flushed_quiet : (n : ℕ) (old new : List DeviceState) → length old ≤ n → FlushedTo n old new
    → NoneWaits new
flushed_quiet n old new all to k = elim (cases_lt k n) [
  | inl lt ↦ (to.done k lt).waiting
  | inr ge ↦ ap (λ d. d.waiting) (to.rest k ge ∙ get_or_past old k no_device (omega arith))
]

pub stopped_alike : (old new : List DeviceState) → FlushStops old new → AreAlike old new
stopped_alike old new stops = record {
  count = stops.count;
  each = λ k. elim (cases_eq k stops.device) [
    | inl e ↦ subst (λ m. SameShape (nth_device old m) (nth_device new m) × ((nth_device new m).contents ≡ (nth_device old m).contents)) (sym e) (stops.fails.shape, stops.fails.contents)
    | inr ne ↦ elim (cases_lt k stops.device) [
      | inl lt ↦ ((stops.done k lt).shape, (stops.done k lt).contents)
      | inr ge ↦ untouched (nth_device old k) (nth_device new k) (stops.rest k (omega arith))
    ]
  ];
}

abbrev pub counts : List DeviceState → List ℕ
counts devices = map (λ d. d.failures) devices

pub count_at : (devices : List DeviceState) (k : ℕ)
    → get_or (counts devices) k 0 ≡ (nth_device devices k).failures
count_at devices k = mapped (λ d. d.failures) devices k no_device

stopped_failures : (old new : List DeviceState) (stops : FlushStops old new)
    → counts new ≡ set (counts old) stops.device (one_more (get_or (counts old) stops.device 0))
stopped_failures old new stops =
    let k : ℕ = stops.device in
    let e : DeviceState = nth_device new k in
    same_maps (λ d. d.failures) no_device new (set old k e) (stops.count ∙ sym (length-set old k e))
    (at_set no_device (λ i d. (nth_device new i).failures ≡ d.failures) old k e stops.there refl same_elsewhere)
    ∙ map-set (λ d. d.failures) old k e ∙ ap (set (counts old) k) (stops.fails.failures ∙ ap one_more (sym (count_at old k)))
  where
    same_elsewhere : (i : ℕ) → i ≢ stops.device
        → (nth_device new i).failures ≡ (nth_device old i).failures
    same_elsewhere i ne = elim (cases_lt i stops.device) [
      | inl lt ↦ (stops.done i lt).failures
      | inr ge ↦ ap (λ d. d.failures) (stops.rest i (omega arith))
    ]

-- Both, one after the other

pub seen_down : {frames : List FrameState} {s t v : PoolState} → t ≡ v → WritesBack frames s v
    → WritesBack frames s t
seen_down {frames} {s} seen down = subst (λ x. WritesBack frames s x) (sym seen) down

pub flush_down : (which : Devices) (n : ℕ) (s t u : PoolState)
    → WritesBack (cleaned_selected which n s.frames) s t → u.frames ≡ t.frames
    → (u.page_size ≡ t.page_size) × (u.spare ≡ t.spare) → AreAlike t.devices u.devices
    → counts u.devices ≡ counts t.devices → WritesBack (cleaned_selected which n s.frames) s u
flush_down which n s t u down frames same alike failures = record {
  becomes = frames ∙ down.becomes;
  devices = kept_both s.frames s.frames s.devices t.devices u.devices (λ i. refl) (λ i is. is) down.devices (alike_kept s.frames t.devices u.devices alike);
  failures = failures ∙ down.failures;
  same = (same.0 ∙ down.same.0, same.1 ∙ down.same.1);
}

-- the flush of one device that failed, after the selected pages were written back
pub flush_fails_at : (which : Devices) (n : ℕ) (s t u : PoolState) (k : ℕ)
    → WritesBack (cleaned_selected which n s.frames) s t
    → view_of u ≡ record (view_of
    t) { failures = set (view_of t).failures k (one_more (get_or (view_of t).failures k 0)) }
    → k < length t.devices → (nth_device t.devices k).unfailing ≡ false
    → FailsAt (view_of s) k (view_of u)
flush_fails_at which n s t u k down becomes there may = record {
  there = subst (λ n. k < n) (sym (length-map s.devices _)) (subst (λ n. k < n) down.devices.count there);
  may = ap (λ d. d.unfailing) (device_seen s k) ∙ sym (down.devices.shape k).unfailing ∙ may;
  becomes = becomes ∙ ap (λ (v : PoolView). let w : PoolView = record v { failures = set v.failures k (one_more (get_or v.failures k 0)) } in w) (down_view which n s t down);
}

pub flush_stops_at : (s t u : PoolState) (stops : FlushStops t.devices u.devices)
    → WritesBack (cleaned_selected All (length s.frames) s.frames) s t → u.frames ≡ t.frames
    → (u.page_size ≡ t.page_size) × (u.spare ≡ t.spare) → WriteBackFails s u
flush_stops_at s t u stops down frames same =
    let seen : view_of u ≡ record (view_of t) { failures = counts u.devices } = (λ i. view_of (made (same.0 i) (same.1 i) (frames i) u.devices)) ∙ view_of_kept t u.devices (alike_kept t.frames t.devices u.devices (stopped_alike t.devices u.devices stops)) in
    let becomes : view_of u ≡ record (view_of t) { failures = set (view_of t).failures stops.device (one_more (get_or (view_of t).failures stops.device 0)) } = seen ∙ (λ i. record (view_of t) { failures = stopped_failures t.devices u.devices stops i }) in
    record {
      written = length s.frames;
      device = stops.device;
      frames = frames ∙ down.becomes;
      first = λ lt. absurd (omega arith);
      all = λ _. (λ k lt. (stops.done k lt).waiting, stops.fails.waiting);
      fails = flush_fails_at All (length s.frames) s t u stops.device down becomes stops.there stops.fails.may;
    }

-- after all of it nothing is left to write back or flush
pub settled : (s t : PoolState) → WritesBack (cleaned_selected All (length s.frames) s.frames) s t
    → NoneWaits t.devices → IsSettled t
settled s t down none = record {
  clean = λ i. ap (λ frames. (nth_frame frames i).dirty) down.becomes ∙ all_clean s.frames i;
  flushed = none;
}

pub seen_settled : {s t v : PoolState} → t ≡ v
    → WritesBack (cleaned_selected All (length s.frames) s.frames) s v → NoneWaits v.devices
    → IsSettled t
seen_settled {s} {v = v} seen down none = subst IsSettled (sym seen) (settled s v down none)

-- The effect of a pin and a load, from their steps.
use Rattle.std.proofs.Common.{◌≡◌, ℕ, ◌+◌, ◌-◌, ◌^◌, ◌<◌, false, List, [], length, map, set, Some, Result, OnErr, IfErr, sym, ◌∙◌, ap, subst, inl, inr, arith}
use Rattle.std.specs.Option.{option_map}
use Rattle.std.proofs.lemmas.List.{map-set, get_or-set_same, length-set, length-map}
use Rattle.warm_stamps.specs.declared.PageId.{PageId}
use Rattle.warm_history.specs.Histories.{HistoryView, hist, references_of}
use Rattle.warm_rank.specs.declared.RankKey.{RankKey}
use Rattle.warm_rank.specs.Keys.{rank_key}
use Rattle.warm_frame_table.specs.Frames.{FrameState, nth_frame, fresh_frame}
use Rattle.warm_pool.specs.declared.slot.Slot.{Slot}
use Rattle.warm_pool.specs.declared.fault.PoolFault.{PoolFault}
use Rattle.warm_pool.specs.declared.fault.PoolFault.TheVariants.{NoDevice, NoPage, AllFixed, ReadFault, WriteBack, FixesFull}
use Rattle.warm_devices.specs.Device.{DeviceState}
use Rattle.warm_pool.specs.State.{PoolState, RankedBy, IsNowhere}
use Rattle.warm_pool.specs.View.{frame_view, view_of, PoolView, FrameView, frame_at, HasPage, IsAbsent, Holds}
use Rattle.warm_pool.specs.Unchanged.{SameButFailures}
use Rattle.warm_pool.specs.Pinning.{IsFrameToLoad, PutsIn, PutRefused, LoadRefused, PinRefused, AddsFix}
use Rattle.warm_pool.specs.steps.Pinning.{LoadsInto, FetchFails, current_slot}
use Rattle.warm_pool.proofs.PageByteLemmas.{frame_seen, absent_seen}
use Rattle.warm_pool.proofs.PoolLemmas.{ranked_set}
use Rattle.warm_pool.proofs.FrameChoiceLemmas.{slot_seen}
use Rattle.warm_pool.proofs.FlushLemmas.{if_err}

-- nothing but counts of failures has changed
pub stays_by : (old new : PoolView) (failures : List ℕ) → new ≡ record old { failures = failures }
    → SameButFailures old new
stays_by old new failures e = e ∙ ap (λ (f : List ℕ). let v : PoolView = record old { failures = f } in v) (sym (ap (λ v. v.failures) e))

-- a page that was not put into a frame
pub put_refused : (s : PoolState) (before : List DeviceState) (t : PoolState) (h : HistoryView) (i : ℕ) (p : PageId)
    → IsFrameToLoad h (view_of s) (Some i) → (nth_frame s.frames i).generation < 2 ^ 64 - 1
    → (why : PoolFault) → FetchFails s before i p why t → PutRefused h (view_of s) p why (view_of t)
put_refused s before t h i p to_load room ReadFault l =
    ((i, record { to_load = to_load; below = subst (λ f. f.generation < 2 ^ 64 - 1) (sym (frame_seen s i)) room }), l.fails)
put_refused s before t h i p to_load room WriteBack l =
    (i, l.page, record { to_load = to_load; below = subst (λ f. f.generation < 2 ^ 64 - 1) (sym (frame_seen s i)) room }, ap (λ f. f.page) (frame_seen s i) ∙ l.holds, l.fails)
put_refused s before t h i p to_load room why l = absurd l

pub same_frames : (s : PoolState) (before : List DeviceState) (t : PoolState) (i : ℕ) (p : PageId)
    (why : PoolFault) → FetchFails s before i p why t → t.frames ≡ s.frames
same_frames s before t i p ReadFault l = l.frames
same_frames s before t i p WriteBack l = l.frames
same_frames s before t i p why l = absurd l

pub failed_ranked : (s : PoolState) (before : List DeviceState) (t : PoolState) (i : ℕ) (p : PageId)
    (why : PoolFault) → FetchFails s before i p why t
    → (h : HistoryView) → RankedBy s h → RankedBy t h
failed_ranked s before t i p why l h r =
    subst (λ fs. (j : ℕ) → (nth_frame fs j).key ≡ option_map (λ q. rank_key q (hist (references_of h) q)) (nth_frame fs j).page) (sym (same_frames s before t i p why l)) r

-- a page that was put into a frame
pub loaded_ranked : {before : List DeviceState} (s t : PoolState) (i : ℕ) (p : PageId)
    (key : RankKey) (n : ℕ) → LoadsInto s before i p key n t → i < length s.frames
    → (h : HistoryView) → key ≡ rank_key p (hist (references_of h) p) → RankedBy s h → RankedBy t h
loaded_ranked s t i p key n l there h is r =
    subst (λ fs. (j : ℕ) → (nth_frame fs j).key ≡ option_map (λ q. rank_key q (hist (references_of h) q)) (nth_frame fs j).page) (sym l.frames)
    (ranked_set s i (record { page = Some p; key = Some key; generation = (nth_frame s.frames i).generation + 1; fixes = n; dirty = false; bytes = l.bytes }) h there (ap Some is) r)

pub loaded_puts : {before : List DeviceState} (s t : PoolState) (i : ℕ) (p : PageId)
    (key : RankKey) (n : ℕ) → LoadsInto s before i p key n t → (h : HistoryView)
    → IsNowhere s.frames p → IsFrameToLoad h (view_of s) (Some i) → (gen : ℕ)
    → gen ≡ (nth_frame s.frames i).generation → gen < 2 ^ 64 - 1
    → PutsIn h (view_of s) p n (record { index = i; generation = gen + 1 }) (view_of t)
loaded_puts s t i p key n l h away to_load gen is room = record {
  absent = absent_seen s p away;
  to_load = to_load;
  below = subst (λ f. f.generation < 2 ^ 64 - 1) (sym (frame_seen s i)) (subst (λ g. g < 2 ^ 64 - 1) is room);
  current = ap (λ g. g + 1) (is ∙ sym (ap (λ f. f.generation) (frame_seen s i)));
  becomes = l.rest ∙ ap (λ (fs : List FrameView). let x : PoolView = record (view_of s) { frames = fs; contents = (view_of t).contents } in x)
      (ap (map frame_view) l.frames
      ∙ map-set frame_view s.frames i (record { page = Some p; key = Some key; generation = (nth_frame s.frames i).generation + 1; fixes = n; dirty = false; bytes = l.bytes })
      ∙ ap (λ (g : ℕ). let f : FrameView = record { page = Some p; generation = g + 1; fixes = n } in set (map frame_view s.frames) i f) (sym is));
  contents = l.contents;
}

-- the slot of a frame of which the page has one more pin
pub fixed_slot : {s t : PoolState} {slot : Slot} (v : PoolView) (i : ℕ) → s ≡ t
    → slot ≡ current_slot t i → (p : PageId) → AddsFix (view_of s) p (current_slot s i) v
    → AddsFix (view_of s) p slot v
fixed_slot {s} v i seen is p adds = subst (λ x. AddsFix (view_of s) p x v) (sym (slot_seen i seen is)) adds

-- the slot of a frame into which a page was loaded
pub loaded_slot : {before : List DeviceState} (s t : PoolState) (i : ℕ) (p : PageId)
    (key : RankKey) (n : ℕ) → LoadsInto s before i p key n t → i < length s.frames
    → (slot : Slot) → slot ≡ current_slot t i
    → (gen : ℕ) → gen ≡ (nth_frame s.frames i).generation
    → slot ≡ record { index = i; generation = gen + 1 }
loaded_slot s t i p key n l there slot is gen was =
    let came : FrameState = record { page = Some p; key = Some key; generation = (nth_frame s.frames i).generation + 1; fixes = n; dirty = false; bytes = l.bytes } in
    is ∙ ap (λ (g : ℕ). let x : Slot = record { index = i; generation = g } in x)
    (ap (λ fs. (nth_frame fs i).generation) l.frames ∙ ap (λ f. f.generation) (get_or-set_same s.frames i came (fresh_frame []) there) ∙ ap (λ g. g + 1) (sym was))

-- a page that was loaded with a pin is held
pub placed_there : (h : HistoryView) (v : PoolView) (i : ℕ) → IsFrameToLoad h v (Some i)
    → i < length v.frames
placed_there h v i (inl free) = free.there
placed_there h v i (inr left) = left.there

pub puts_holds : (h : HistoryView) (old : PoolView) (p : PageId) (slot : Slot) (new : PoolView)
    → PutsIn h old p 1 slot new → Holds new slot
puts_holds h old p slot new x =
    let there : slot.index < length old.frames = placed_there h old slot.index x.to_load in
    let seen : frame_at new slot.index ≡ record { page = Some p; generation = slot.generation; fixes = 1 } =
    ap (λ v. frame_at v slot.index) x.becomes ∙ get_or-set_same old.frames slot.index (record { page = Some p; generation = slot.generation; fixes = 1 }) _ there in
    record {
      there = subst (λ m. slot.index < m) (sym (ap (λ v. length v.frames) x.becomes ∙ length-set old.frames slot.index (record { page = Some p; generation = slot.generation; fixes = 1 }))) there;
      current = sym (ap (λ f. f.generation) seen);
      fixed = subst (λ f. 0 < f.fixes) (sym seen) (omega arith);
    }

-- the refusals of a page that is in no frame
pub load_refused : (h : HistoryView) (old : PoolView) (p : PageId) (new : PoolView) → HasPage old p
    → IsAbsent old p → (why : PoolFault) → PutRefused h old p why new → LoadRefused h old p why new
load_refused h old p new has away NoDevice x = absurd x
load_refused h old p new has away NoPage x = absurd x
load_refused h old p new has away why x = (has, away, x)

pub pin_refused : (h : HistoryView) (old : PoolView) (p : PageId) (new : PoolView) (why : PoolFault)
    → LoadRefused h old p why new → PinRefused h old p why new
pin_refused h old p new FixesFull x = inr x
pin_refused h old p new why x = x

pub put_stays : (h : HistoryView) (old : PoolView) (p : PageId) (new : PoolView) (why : PoolFault)
    → PutRefused h old p why new → SameButFailures old new
put_stays h old p new AllFixed x = stays_by old new old.failures x.1
put_stays h old p new FixesFull x = stays_by old new old.failures x.1
put_stays h old p new ReadFault x = stays_by old new _ x.1.becomes
put_stays h old p new WriteBack x = stays_by old new _ x.4.becomes
put_stays h old p new why x = absurd x

-- a page with the greatest pin count
pub pin_full : (s t : PoolState) (h : HistoryView) (p : PageId) (i : ℕ) → HasPage (view_of s) p
    → i < length s.frames → (nth_frame s.frames i).page ≡ Some p
    → {T : Type 0} (r : Result T PoolFault)
    → IfErr r (λ why. (why ≡ FixesFull) × ((nth_frame s.frames i).fixes ≡ 2 ^ 32 - 1) × (t ≡ s))
    → IfErr r (λ why. PinRefused h (view_of s) p why (view_of t))
pin_full s t h p i has there holds r x = if_err _ _ r x (λ why full. subst (λ y. PinRefused h (view_of s) p y (view_of t)) (sym full.0)
    (inl (has, record { frame = i; there = subst (λ m. i < m) (sym (length-map s.frames frame_view)) there; resident = ap (λ f. f.page) (frame_seen s i) ∙ holds; full = ap (λ f. f.fixes) (frame_seen s i) ∙ full.1 }, ap view_of full.2)))

pub full_stays : (s t : PoolState) (i : ℕ) {T : Type 0} (r : Result T PoolFault)
    → IfErr r (λ why. (why ≡ FixesFull) × ((nth_frame s.frames i).fixes ≡ 2 ^ 32 - 1) × (t ≡ s))
    → OnErr r (SameButFailures (view_of s) (view_of t))
full_stays s t i r x = if_err _ _ r x (λ why full. stays_by (view_of s) (view_of t) (view_of s).failures (ap view_of full.2))

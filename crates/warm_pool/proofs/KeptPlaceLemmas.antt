-- A resident page stays in its frame.
use Rattle.std.proofs.Common.{◌≡◌, ◌≢◌, ◌⊎◌, ℕ, ◌+◌, ◌-◌, ◌<◌, cond, true, false, length, set, get_or, Some, None, refl, sym, ◌∙◌, ap, subst, inl, inr}
use Rattle.std.proofs.lemmas.Bool.{cases_eq}
use Rattle.std.proofs.lemmas.Option.{same_Some}
use Rattle.std.proofs.lemmas.List.{get_or-set_same, get_or-set_other}
use Rattle.std.proofs.Math.ListN.{get_or-map as mapped}
use Rattle.warm_stamps.specs.declared.PageId.{PageId}
use Rattle.warm_history.specs.Histories.{HistoryView}
use Rattle.warm_devices.specs.Device.{DeviceState}
use Rattle.warm_frame_table.specs.declared.selection.Devices.{Devices}
use Rattle.warm_frame_table.specs.declared.selection.Devices.TheVariants.{PagesFrom}
use Rattle.warm_frame_table.specs.Frames.{FrameState, nth_frame}
use Rattle.warm_frame_table.specs.FrameSteps.{vacated}
use Rattle.warm_frame_table.specs.Selection.{is_on, selects, vacate_if}
use Rattle.warm_frame_table.proofs.ListLemmas.{at_set}
use Rattle.warm_pool.specs.declared.slot.Slot.{Slot}
use Rattle.warm_pool.specs.State.{PoolState}
use Rattle.warm_pool.specs.View.{FrameView, PoolView, frame_at, view_of, IsAbsent}
use Rattle.warm_pool.specs.Pinning.{AddsFix, PutsIn, StaysIn, unpinned}
use Rattle.warm_pool.specs.Retiring.{emptied, Retired}
use Rattle.warm_pool.specs.Forgetting.{Forgets}
use Rattle.warm_pool.specs.Zeroing.{FixesZeroed, PutsZeros}
use Rattle.warm_pool.specs.Laws.{KeepsPlaces, LeavingKeepsPlaces, PinsKeepPlaces, SameFramesKeepPlaces, UnpinsKeepPlaces}
use Rattle.warm_pool.proofs.PageByteLemmas.{frame_seen}
use Rattle.warm_pool.proofs.EmptyLemmas.{nth_vacated}
use Rattle.warm_pool.proofs.PinLemmas.{placed_there}
use Rattle.warm_pool.proofs.AddedPinLemmas.{no_frame}
use Rattle.warm_pool.proofs.PlacedLemmas.{IsOnce, once_seen}

-- the frame has the page that it had, of the same generation
record IsAsBefore (old new : FrameView) : Type 0 where
  page : new.page ≡ old.page
  generation : new.generation ≡ old.generation

-- if each frame still has its page, or none, the pages that are resident still have not moved
kept_or_left : (v w : PoolView) → IsOnce v
    → ((i : ℕ) → IsAsBefore (frame_at v i) (frame_at w i) ⊎ ((frame_at w i).page ≡ None))
    → KeepsPlaces v w
kept_or_left v w once each p i held is = elim (each i) [
  | inl as_before ↦ (as_before.page ∙ held, as_before.generation)
  | inr gone ↦ elim (each is.frame) [
    | inl as_before ↦
        let same : is.frame ≡ i = once is.frame i p (sym as_before.page ∙ is.holds) held in
        let no : None ≡ Some p = sym gone ∙ subst (λ k. (frame_at w k).page ≡ Some p) same is.holds in
        absurd (cc)
    | inr none ↦ let no : None ≡ Some p = sym none ∙ is.holds in absurd (cc)
  ]
]

same_frames : (v w : PoolView) → IsOnce v → w.frames ≡ v.frames → KeepsPlaces v w
same_frames v w once same =
    kept_or_left v w once (λ i. inl (subst (λ fs. IsAsBefore (frame_at v i) (get_or fs i no_frame)) (sym same) (record { page = refl; generation = refl })))

-- the frame of one page has another count of pins
other_fixes : (v w : PoolView) (k n : ℕ) → IsOnce v → k < length v.frames
    → w.frames ≡ set v.frames k (record (frame_at v k) { fixes = n }) → KeepsPlaces v w
other_fixes v w k n once there same =
    let f : FrameView = record (frame_at v k) { fixes = n } in
    kept_or_left v w once (λ i. inl (subst (λ fs. IsAsBefore (frame_at v i) (get_or fs i no_frame)) (sym same)
    (at_set no_frame (λ j g. IsAsBefore (frame_at v j) g) v.frames k f there (record { page = refl; generation = refl }) (λ j ne. record { page = refl; generation = refl }) i)))

-- a page that was in no frame came into this one
module _ (v w : PoolView) (p : PageId) (k gen n : ℕ) (once : IsOnce v) (absent : IsAbsent v p)
    (there : k < length v.frames)
    (same : w.frames ≡ set v.frames k (record { page = Some p; generation = gen; fixes = n })) where
  abbrev came : FrameView
  came = record { page = Some p; generation = gen; fixes = n }

  here : frame_at w k ≡ came
  here = ap (λ fs. get_or fs k no_frame) same ∙ get_or-set_same v.frames k came no_frame there

  other : (i : ℕ) → i ≢ k → frame_at w i ≡ frame_at v i
  other i ne = ap (λ fs. get_or fs i no_frame) same ∙ get_or-set_other v.frames k i came no_frame ne

  came_in : KeepsPlaces v w
  came_in q i held is = elim (cases_eq i k) [
    | inr ne ↦ (ap (λ f. f.page) (other i ne) ∙ held, ap (λ f. f.generation) (other i ne))
    | inl at ↦ elim (cases_eq is.frame k) [
      | inl put ↦
          let it : p ≡ q = same_Some p q (sym (ap (λ f. f.page) here) ∙ subst (λ j. (frame_at w j).page ≡ Some q) put is.holds) in
          absurd (absent i (held ∙ ap Some (sym it)))
      | inr ne ↦ absurd (ne (once is.frame i q (sym (ap (λ f. f.page) (other is.frame ne)) ∙ is.holds) held ∙ at))
    ]
  ]

fixed_places : (v w : PoolView) (p : PageId) (slot : Slot) → IsOnce v → AddsFix v p slot w
    → KeepsPlaces v w
fixed_places v w p slot once adds =
    other_fixes v w slot.index ((frame_at v slot.index).fixes + 1) once adds.there (ap (λ x. x.frames) adds.becomes)

put_places : (h : HistoryView) (v w : PoolView) (p : PageId) (n : ℕ) (slot : Slot) → IsOnce v
    → PutsIn h v p n slot w → KeepsPlaces v w
put_places h v w p n slot once puts =
    came_in v w p slot.index slot.generation n once puts.absent (placed_there h v slot.index puts.to_load) (ap (λ x. x.frames) puts.becomes)

zeroed_places : (h : HistoryView) (v w : PoolView) (p : PageId) (slot : Slot) → IsOnce v
    → FixesZeroed v p slot w ⊎ PutsZeros h v p slot w → KeepsPlaces v w
zeroed_places h v w p slot once (inl fixes) =
    other_fixes v w slot.index ((frame_at v slot.index).fixes + 1) once fixes.adds.there
    (ap (λ x. x.frames) fixes.written.becomes ∙ ap (λ x. x.frames) fixes.adds.becomes)
zeroed_places h v w p slot once (inr puts) =
    came_in v w p slot.index slot.generation 1 once puts.absent (placed_there h v slot.index puts.to_load) (ap (λ x. x.frames) puts.becomes)

pinned_places : (h : HistoryView) (v w : PoolView) (p : PageId) (slot : Slot) → IsOnce v
    → AddsFix v p slot w ⊎ PutsIn h v p 1 slot w → KeepsPlaces v w
pinned_places h v w p slot once (inl adds) = fixed_places v w p slot once adds
pinned_places h v w p slot once (inr puts) = put_places h v w p 1 slot once puts

loaded_places : (h : HistoryView) (v w : PoolView) (p : PageId) (slot : Slot) → IsOnce v
    → StaysIn v p slot w ⊎ PutsIn h v p 0 slot w → KeepsPlaces v w
loaded_places h v w p slot once (inl stays) = same_frames v w once (ap (λ x. x.frames) stays.same)
loaded_places h v w p slot once (inr puts) = put_places h v w p 0 slot once puts

pub pins_keep_places : PinsKeepPlaces
pins_keep_places s h p slot new pool (inl pinned) = pinned_places h (view_of s) new p slot (once_seen pool) pinned.1
pins_keep_places s h p slot new pool (inr (inl loaded)) = loaded_places h (view_of s) new p slot (once_seen pool) loaded.1
pins_keep_places s h p slot new pool (inr (inr zeroed)) = zeroed_places h (view_of s) new p slot (once_seen pool) zeroed.1

pub unpins_keep_places : UnpinsKeepPlaces
unpins_keep_places s slot pool holds =
    other_fixes (view_of s) (unpinned (view_of s) slot) slot.index ((frame_at (view_of s) slot.index).fixes - 1) (once_seen pool) holds.there refl

pub same_frames_keep_places : SameFramesKeepPlaces
same_frames_keep_places s new pool same = same_frames (view_of s) new (once_seen pool) same

-- pages leave

left_if : (dev : ℕ) (f : FrameView)
    → IsAsBefore f (cond (is_on dev f.page) (emptied f) f) ⊎ ((cond (is_on dev f.page) (emptied f) f).page ≡ None)
left_if dev f = elim (is_on dev f.page) as (λ t. IsAsBefore f (cond t (emptied f) f) ⊎ ((cond t (emptied f) f).page ≡ None)) [ true ↦ inr refl | false ↦ inl (record { page = refl; generation = refl }) ]

retired_places : (v w : PoolView) (dev : ℕ) (device : DeviceState) → IsOnce v
    → Retired v dev device w → KeepsPlaces v w
retired_places v w dev device once retired =
    let leave : FrameView → FrameView = λ f. cond (is_on dev f.page) (emptied f) f in
    kept_or_left v w once (λ i. subst (λ f. IsAsBefore (frame_at v i) f ⊎ (f.page ≡ None))
    (sym (ap (λ x. frame_at x i) retired.becomes ∙ mapped leave v.frames i no_frame)) (left_if dev (frame_at v i)))

vacated_if : (which : Devices) (f : FrameState)
    → (((vacate_if which f).page ≡ f.page) × ((vacate_if which f).generation ≡ f.generation)) ⊎ ((vacate_if which f).page ≡ None)
vacated_if which f = elim (selects which f.page) as (λ t. (((cond t (vacated f) f).page ≡ f.page) × ((cond t (vacated f) f).generation ≡ f.generation)) ⊎ ((cond t (vacated f) f).page ≡ None)) [ true ↦ inr refl | false ↦ inl (refl, refl) ]

forgotten_places : (s t : PoolState) (dev from : ℕ) → IsOnce (view_of s) → Forgets s dev from t
    → KeepsPlaces (view_of s) (view_of t)
forgotten_places s t dev from once forgets =
    let which : Devices = PagesFrom dev from in
    kept_or_left (view_of s) (view_of t) once (λ i.
    let after : nth_frame t.frames i ≡ vacate_if which (nth_frame s.frames i) = ap (λ x. nth_frame x.frames i) forgets.becomes ∙ nth_vacated which s.frames i in
    elim (vacated_if which (nth_frame s.frames i)) [
      | inl (page, generation) ↦ inl (record {
        page = ap (λ f. f.page) (frame_seen t i) ∙ ap (λ f. f.page) after ∙ page ∙ sym (ap (λ f. f.page) (frame_seen s i));
        generation = ap (λ f. f.generation) (frame_seen t i) ∙ ap (λ f. f.generation) after ∙ generation ∙ sym (ap (λ f. f.generation) (frame_seen s i));
      })
      | inr none ↦ inr (ap (λ f. f.page) (frame_seen t i) ∙ ap (λ f. f.page) after ∙ none)
    ])

pub leaving_keeps_places : LeavingKeepsPlaces
leaving_keeps_places s new dev from device pool (inl retired) = retired_places (view_of s) (view_of new) dev device (once_seen pool) retired
leaving_keeps_places s new dev from device pool (inr forgets) = forgotten_places s new dev from (once_seen pool) forgets

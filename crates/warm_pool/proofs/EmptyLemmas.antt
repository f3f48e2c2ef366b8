-- A pool of which pages left.
use Rattle.std.proofs.Common.{◌≡◌, ℕ, ◌<◌, ◌≤◌, cond, true, false, IsTrue, List, [], ◌∷◌, length, map, get_or, Some, None, refl, sym, ap, ◌∙◌, subst, inl, inr}
use Rattle.std.specs.Option.{option_map}
use Rattle.std.proofs.lemmas.List.{length-map}
use Rattle.std.proofs.Math.ListN.{get_or-map as mapped}
use Rattle.warm_stamps.specs.declared.PageId.{PageId}
use Rattle.warm_history.specs.Histories.{HistoryView, hist, references_of}
use Rattle.warm_rank.specs.Keys.{rank_key}
use Rattle.warm_devices.specs.Device.{DeviceState}
use Rattle.warm_rank.specs.declared.TheConstants.{MAX_FRAMES}
use Rattle.warm_frame_table.specs.declared.selection.Devices.{Devices}
use Rattle.warm_frame_table.specs.declared.selection.Devices.TheVariants.{All, One, PagesFrom}
use Rattle.warm_frame_table.specs.Frames.{FrameState, FramesState, nth_frame, fresh_frame}
use Rattle.warm_frame_table.specs.FrameSteps.{vacated}
use Rattle.warm_frame_table.specs.Selection.{selects, vacate_if, vacated_selected}
use Rattle.warm_pool.specs.State.{PoolState, IsPool, IsNowhere, IsSettled, nth_device}
use Rattle.warm_pool.specs.View.{stored, view_of, frame_view, bytes_of, PoolView, HasPage, contents_at, device_at}
use Rattle.warm_pool.specs.Unchanged.{KeepsContents}
use Rattle.warm_pool.specs.WritingBack.{WritesBack, cleaned_selected}
use Rattle.warm_pool.specs.Retiring.{Emptied, emptied}
use Rattle.warm_pool.specs.steps.Retiring.{AreUnfixed}
use Rattle.warm_pool.proofs.PageByteLemmas.{bytes_nowhere, where_is, contents_seen, device_seen, frame_seen}
use Rattle.warm_pool.proofs.PoolLemmas.{pool_from, stored_honest}
use Rattle.warm_pool.proofs.LoadLemmas.{contents_absent}
use Rattle.warm_pool.proofs.ClosingLemmas.{clean_each, nth_page}
use Rattle.warm_pool.proofs.SettleLemmas.{down_view}

-- Fixes

pub unfixed_to : (which : Devices) (n : ℕ) (old new : List FrameState)
    → new ≡ cleaned_selected which n old → AreUnfixed which old → AreUnfixed which new
unfixed_to which n old new becomes unfixed i selected =
    let page : (nth_frame new i).page ≡ (nth_frame old i).page = ap (λ frames. (nth_frame frames i).page) becomes ∙ nth_page which n old i in
    ap (λ frames. (nth_frame frames i).fixes) becomes ∙ clean_each (λ f. f.fixes ≡ (nth_frame old i).fixes) which n old i refl refl ∙ unfixed i (subst (λ held. IsTrue (selects which held)) page selected)

pub unfixed_frames : (frames : List FrameState) → AreUnfixed All frames → (i : ℕ)
    → (get_or (map frame_view frames) i (frame_view (fresh_frame []))).fixes ≡ 0
unfixed_frames frames unfixed i = ap (λ f. f.fixes) (mapped frame_view frames i (fresh_frame [])) ∙ unfixed i refl

-- One frame whose page may have left

pub vacate_held : (which : Devices) (f : FrameState) (p : PageId)
    → (vacate_if which f).page ≡ Some p → vacate_if which f ≡ f
vacate_held which f p = elim (selects which f.page) as (λ t. (cond t (vacated f) f).page ≡ Some p → cond t (vacated f) f ≡ f) [
  | true ↦ λ is. let no : None ≡ Some p = is in absurd (cc)
  | false ↦ λ is. refl
]

vacate_size : (which : Devices) (f : FrameState) → (vacate_if which f).bytes ≡ f.bytes
vacate_size which f = elim (selects which f.page) as (λ t. (cond t (vacated f) f).bytes ≡ f.bytes) [ true ↦ refl | false ↦ refl ]

abbrev IsBare : FrameState → Type 0
IsBare f = (f.key ≡ None) × (f.fixes ≡ 0) × (f.dirty ≡ false)

vacate_bare : (which : Devices) (f : FrameState) → (IsTrue (selects which f.page) → f.fixes ≡ 0)
    → (f.page ≡ None → IsBare f) → (vacate_if which f).page ≡ None → IsBare (vacate_if which f)
vacate_bare which f = elim (selects which f.page) as (λ t. (IsTrue t → f.fixes ≡ 0) → (f.page ≡ None → IsBare f) → (cond t (vacated f) f).page ≡ None → IsBare (cond t (vacated f) f)) [
  | true ↦ λ unfixed bare is. (refl, unfixed refl, refl)
  | false ↦ λ unfixed bare is. bare is
]

abbrev IsRanked : HistoryView → FrameState → Type 0
IsRanked h f = f.key ≡ option_map (λ p. rank_key p (hist (references_of h) p)) f.page

vacate_ranked : (which : Devices) (f : FrameState) (h : HistoryView) → IsRanked h f
    → IsRanked h (vacate_if which f)
vacate_ranked which f h is = elim (selects which f.page) as (λ t. IsRanked h (cond t (vacated f) f)) [ true ↦ refl | false ↦ is ]

vacate_fresh : (which : Devices) → vacate_if which (fresh_frame []) ≡ fresh_frame []
vacate_fresh All = refl
vacate_fresh (One dev) = refl
vacate_fresh (PagesFrom dev first) = refl

pub nth_vacated : (which : Devices) (frames : List FrameState) (i : ℕ)
    → nth_frame (vacated_selected which frames) i ≡ vacate_if which (nth_frame frames i)
nth_vacated which frames i = ap (get_or (vacated_selected which frames) i) (sym (vacate_fresh which)) ∙ mapped (vacate_if which) frames i (fresh_frame [])

-- All of them

pub still_there : (which : Devices) (frames : List FrameState) (i : ℕ) (p : PageId)
    → (nth_frame (vacated_selected which frames) i).page ≡ Some p
    → nth_frame (vacated_selected which frames) i ≡ nth_frame frames i
still_there which frames i p is = nth_vacated which frames i ∙ vacate_held which (nth_frame frames i) p (sym (ap (λ f. f.page) (nth_vacated which frames i)) ∙ is)

pub was_there : (which : Devices) (frames : List FrameState) (i : ℕ) (p : PageId)
    → (nth_frame (vacated_selected which frames) i).page ≡ Some p
    → (nth_frame frames i).page ≡ Some p
was_there which frames i p is = sym (ap (λ f. f.page) (still_there which frames i p is)) ∙ is

pub vacated_pool : (which : Devices) (s : PoolState) → AreUnfixed which s.frames → IsPool s
    → IsPool (record s { frames = vacated_selected which s.frames })
vacated_pool which s unfixed w =
    let count = length-map s.frames (vacate_if which) in
    record {
      some_frames = subst (λ n. 0 < n) (sym count) w.some_frames;
      few_frames = subst (λ n. n ≤ MAX_FRAMES) (sym count) w.few_frames;
      some_bytes = w.some_bytes;
      few_bytes = w.few_bytes;
      few_devices = w.few_devices;
      spare_size = w.spare_size;
      frame_size = λ i low. ap (λ f. length f.bytes) (nth_vacated which s.frames i) ∙ ap length (vacate_size which (nth_frame s.frames i)) ∙ w.frame_size i (subst (λ n. i < n) count low);
      device_size = w.device_size;
      has_device = λ i p is. w.has_device i p (was_there which s.frames i p is);
      has_page = λ i p is. w.has_page i p (was_there which s.frames i p is);
      once = λ i j p at_i at_j. w.once i j p (was_there which s.frames i p at_i) (was_there which s.frames j p at_j);
      clean = λ i p is clean honest.
          let same = still_there which s.frames i p is in
          ap (λ f. f.bytes) same ∙ w.clean i p (was_there which s.frames i p is) (sym (ap (λ f. f.dirty) same) ∙ clean) honest;
      bare = λ i is. subst (λ f. IsBare f) (sym (nth_vacated which s.frames i))
          (vacate_bare which (nth_frame s.frames i) (unfixed i) (w.bare i) (sym (ap (λ f. f.page) (nth_vacated which s.frames i)) ∙ is));
    }

pub vacated_ranked : (which : Devices) (frames : List FrameState) (h : HistoryView)
    → ((i : ℕ) → IsRanked h (nth_frame frames i)) → (i : ℕ)
    → IsRanked h (nth_frame (vacated_selected which frames) i)
vacated_ranked which frames h ranked i = subst (λ f. IsRanked h f) (sym (nth_vacated which frames i)) (vacate_ranked which (nth_frame frames i) h (ranked i))

pub empty_ranked : (old new : FramesState) (h : HistoryView)
    → new ≡ record old { frames = vacated_selected All old.frames } → (i : ℕ)
    → IsRanked h (nth_frame new.frames i)
empty_ranked old new h is i = subst (λ (f : FramesState). IsRanked h (nth_frame f.frames i)) (sym is) (subst (λ f. IsRanked h f) (sym (nth_vacated All old.frames i)) refl)

-- An emptied pool, as a caller sees it

empty_away : (frames : List FrameState) (p : PageId) → IsNowhere (vacated_selected All frames) p
empty_away frames p i is = let no : None ≡ Some p = sym (ap (λ f. f.page) (nth_vacated All frames i)) ∙ is in absurd (cc)

seen_empty : (frames : List FrameState)
    → map frame_view (vacated_selected All frames) ≡ map emptied (map frame_view frames)
seen_empty [] = refl
seen_empty (f ∷ frames) = ap (λ rest. emptied (frame_view f) ∷ rest) (seen_empty frames)

module _ (t : PoolState) (w : IsPool t)
    (clean : (i : ℕ) → (nth_frame t.frames i).dirty ≡ false) where
  abbrev u : PoolState
  u = record t { frames = vacated_selected All t.frames }

  -- what an honest device has of a page is what the pool has
  on_device : (p : PageId) → IsTrue (nth_device t.devices p.dev).honest
      → bytes_of t.frames t.devices p ≡ stored t.devices p
  on_device p honest = elim (where_is t.frames p) [
    | inl h ↦ h.bytes (stored t.devices p) ∙ w.clean h.frame p h.holds (clean h.frame) honest ∙ sym (stored_honest t.devices p honest)
    | inr h ↦ h.bytes (stored t.devices p)
  ]

  honest_kept : (p : PageId) → HasPage (view_of t) p → IsTrue (device_at (view_of t) p.dev).honest
      → contents_at (view_of u) p ≡ contents_at (view_of t) p
  honest_kept p has honest =
      let device : p.dev < length t.devices = subst (λ n. p.dev < n) (length-map t.devices _) has.device in
      let number : p.no < (nth_device t.devices p.dev).pages = subst (λ d. p.no < d.pages) (device_seen t p.dev) has.number in
      let is_honest : IsTrue (nth_device t.devices p.dev).honest = subst (λ d. IsTrue d.honest) (device_seen t p.dev) honest in
      contents_seen u p device number ∙ bytes_nowhere u.frames p (stored t.devices p) (empty_away t.frames p) ∙ sym (on_device p is_honest) ∙ sym (contents_seen t p device number)

  empty_keeps : KeepsContents (view_of t) (view_of u)
  empty_keeps = record {
    honest = honest_kept;
    resident = λ p was is. absurd (empty_away t.frames p is.frame (sym (ap (λ f. f.page) (frame_seen u is.frame)) ∙ is.holds));
    absent = λ p isnt away. contents_absent u p (sym (ap (λ d. d.honest) (device_seen u p.dev)) ∙ isnt) (empty_away t.frames p);
    sized = λ p is. absurd (empty_away t.frames p is.frame (sym (ap (λ f. f.page) (frame_seen u is.frame)) ∙ is.holds));
  }

  pub empty_view : (s : PoolState) → view_of t ≡ view_of s → AreUnfixed All s.frames
      → Emptied (view_of s) (view_of u)
  empty_view s same unfixed = record {
    unfixed = unfixed_frames s.frames unfixed;
    becomes = (λ i. record (view_of t) { frames = seen_empty t.frames i; contents = (view_of u).contents }) ∙ ap (λ (v : PoolView). let x : PoolView = record v { frames = map emptied v.frames; contents = (view_of u).contents } in x) same;
    contents = subst (λ v. KeepsContents v (view_of u)) same empty_keeps;
  }

pub empty_settled : (t : PoolState) → IsSettled t
    → IsSettled (record t { frames = vacated_selected All t.frames })
empty_settled t settled = record { clean = λ i. ap (λ f. f.dirty) (nth_vacated All t.frames i); flushed = settled.flushed }

-- the same, if an equation gives the frames
pub becomes_empty : (P : PoolState → Type 0) (which : Devices) (old new : FramesState) (spare : ℕ)
    (devices : List DeviceState) → new ≡ record old { frames = vacated_selected which old.frames }
    → P (record (pool_from old spare devices) { frames = vacated_selected which old.frames })
    → P (pool_from new spare devices)
becomes_empty P which old new spare devices is holds = subst (λ frames. P (pool_from frames spare devices)) (sym is) holds

pub emptied_pool : (s : PoolState) (old new : FramesState) (spare : ℕ) (devices : List DeviceState)
    → WritesBack (cleaned_selected All (length s.frames) s.frames) s (pool_from old spare devices)
    → IsSettled (pool_from old spare devices) → AreUnfixed All s.frames
    → IsPool (pool_from old spare devices)
    → new ≡ record old { frames = vacated_selected All old.frames }
    → Emptied (view_of s) (view_of (pool_from new spare devices))
emptied_pool s old new spare devices down settled unfixed pool is =
    let t : PoolState = pool_from old spare devices in
    becomes_empty (λ u. Emptied (view_of s) (view_of u)) All old new spare devices is
    (empty_view t pool settled.clean s (down_view All (length s.frames) s t down) unfixed)

-- The frame of a page, the frame into which a page is loaded, and the page that is evicted for it.
use Rattle.std.proofs.Common.{◌≡◌, ◌≢◌, ◌↔◌, ℕ, ◌<◌, ◌≤◌, ◌==◌, cond, Bool, true, false, IsTrue, List, [], length, map, get_or, Option, Some, None, IsSome, IfSome, Result, Ok, Err, OnOk, OnErr, is_some, is_ok, refl, sym, ◌∙◌, ap, subst, inl, inr}
use Rattle.std.specs.Option.{option_map}
use Rattle.std.proofs.Math.ListN.{get_or-map as mapped}
use Rattle.std.proofs.lemmas.Bool.{cases_eq, cases_lt, ne_eqb, eq-eqb}
use Rattle.std.proofs.lemmas.List.{length-map, ext_get_or, get_or_past}
use Rattle.warm_stamps.specs.declared.PageId.{PageId}
use Rattle.warm_history.specs.Histories.{HistoryView, hist, references_of}
use Rattle.warm_rank.specs.declared.RankKey.{RankKey}
use Rattle.warm_rank.specs.Keys.{rank_key, key_cmp}
use Rattle.warm_rank.specs.Ranking.{IsVictim}
use Rattle.warm_rank.specs.Laws.{keys_over}
use Rattle.warm_rank.specs.Slots.{IsLeast}
use Rattle.warm_rank.proofs.SlotLemmas.{least_key_is_victim}
use Rattle.warm_frame_table.specs.Frames.{FrameState, nth_frame, fresh_frame, eviction_key}
use Rattle.warm_frame_table.specs.Places.{IsPlaceOf, IsFirstFree}
use Rattle.warm_pool.specs.State.{PoolState, IsPool, RankedBy, IsNowhere, nth_device}
use Rattle.warm_pool.specs.View.{frame_view, device_view, view_of, device_at, frame_at, HasPage, IsResident, unfixed_page, unfixed_pages}
use Rattle.warm_pool.specs.declared.slot.Slot.{Slot}
use Rattle.warm_pool.specs.Pinning.{HasNoFreeFrame, IsLeastFree, IsFrameToLoad}
use Rattle.warm_pool.specs.steps.Pinning.{current_slot}
use Rattle.warm_pool.proofs.PageByteLemmas.{frame_seen, device_seen}

-- the same of a pool that is seen as v
pub pool_seen : {s v : PoolState} → s ≡ v → IsPool s → IsPool v
pool_seen seen w = subst IsPool seen w

pub place_seen : {s v : PoolState} → s ≡ v → (p : PageId) (at : Option ℕ)
    → IsPlaceOf (map (λ f. f.page) s.frames) p at → IsPlaceOf (map (λ f. f.page) v.frames) p at
place_seen seen p at is = subst (λ x. IsPlaceOf (map (λ f. f.page) x.frames) p at) seen is

-- what a device has, as a caller sees it
pub seen_has : {s : PoolState} → IsPool s → (p : PageId) → p.dev < length s.devices
    → p.no < (nth_device s.devices p.dev).pages → HasPage (view_of s) p
seen_has {s} w p d n = record {
  device = subst (λ m. p.dev < m) (sym (length-map s.devices device_view)) d;
  number = subst (λ x. p.no < x.pages) (sym (device_seen s p.dev)) n;
}

pub has_device : {s : PoolState} → IsPool s → (p : PageId) → HasPage (view_of s) p
    → p.dev < length s.devices
has_device {s} w p h = subst (λ m. p.dev < m) (length-map s.devices device_view) h.device

pub has_number : {s : PoolState} → IsPool s → (p : PageId) → HasPage (view_of s) p
    → p.no < (nth_device s.devices p.dev).pages
has_number {s} w p h = subst (λ x. p.no < x.pages) (device_seen s p.dev) h.number

-- and that it hasn't the page, as a caller sees it
pub seen_pages : {s : PoolState} → IsPool s → (p : PageId)
    → (nth_device s.devices p.dev).pages ≤ p.no → (device_at (view_of s) p.dev).pages ≤ p.no
seen_pages {s} w p none = subst (λ d. d.pages ≤ p.no) (sym (device_seen s p.dev)) none

-- the pages of the frames, one by one
page_of_nth : (frames : List FrameState) (i : ℕ)
    → get_or (map (λ f. f.page) frames) i None ≡ (nth_frame frames i).page
page_of_nth frames i = mapped (λ (f : FrameState). f.page) frames i (fresh_frame [])

pub found_there : {s : PoolState} → IsPool s → (p : PageId) (i : ℕ)
    → IsPlaceOf (map (λ f. f.page) s.frames) p (Some i) → i < length s.frames
found_there {s} w p i h = subst (λ m. i < m) (length-map s.frames (λ (f : FrameState). f.page)) h.0

pub found_holds : {s : PoolState} → IsPool s → (p : PageId) (i : ℕ)
    → IsPlaceOf (map (λ f. f.page) s.frames) p (Some i) → (nth_frame s.frames i).page ≡ Some p
found_holds {s} w p i h = sym (page_of_nth s.frames i) ∙ h.1

pub found_nowhere : {s : PoolState} → IsPool s → (p : PageId)
    → IsPlaceOf (map (λ f. f.page) s.frames) p None → IsNowhere s.frames p
found_nowhere {s} w p h i e = elim (cases_lt i (length s.frames)) [
  | inl lt ↦ h i (subst (λ m. i < m) (sym (length-map s.frames (λ (f : FrameState). f.page))) lt) (page_of_nth s.frames i ∙ e)
  | inr ge ↦
      let none : None ≡ Some p = sym (ap (λ f. f.page) (get_or_past s.frames i (fresh_frame []) ge)) ∙ e in
      absurd (cc)
]

pub seen_resident : {s : PoolState} → IsPool s → (p : PageId) (i : ℕ)
    → IsPlaceOf (map (λ f. f.page) s.frames) p (Some i) → IsResident (view_of s) p
seen_resident {s} w p i h = record {
  frame = i;
  there = subst (λ m. i < m) (sym (length-map s.frames frame_view)) (found_there w p i h);
  holds = ap (λ f. f.page) (frame_seen s i) ∙ found_holds w p i h;
}

pub seen_nowhere : {s : PoolState} → IsPool s → (p : PageId)
    → IsPlaceOf (map (λ f. f.page) s.frames) p None → IsResident (view_of s) p → ⊥
seen_nowhere {s} w p h r = found_nowhere w p h r.frame (sym (ap (λ f. f.page) (frame_seen s r.frame)) ∙ r.holds)

pub found_iff : {s : PoolState} → IsPool s → (p : PageId) (found : Option ℕ)
    → IsPlaceOf (map (λ f. f.page) s.frames) p found
    → (t : Bool) → t ≡ is_some found → IsTrue t ↔ IsResident (view_of s) p
found_iff {s} w p (Some i) h t is = (λ _. seen_resident w p i h, λ _. is)
found_iff {s} w p None h t is = (λ yes. absurd (cc), λ r. absurd (seen_nowhere w p h r))

-- what holds exactly if a check succeeds
pub ok_iff : {T E : Type 0} (r : Result T E) (P : Type 0) → OnOk r P → OnErr r (P → ⊥) → (t : Bool)
    → t ≡ is_ok r → IsTrue t ↔ P
ok_iff (Ok x) P holds fails t is = (λ _. holds, λ _. is)
ok_iff (Err e) P holds fails t is = (λ yes. absurd (cc), λ p. absurd (fails p))

-- what holds if a call succeeds
pub of_ok : {T E P : Type 0} (r : Result T E) → true ≡ is_ok r → OnOk r P → P
of_ok (Ok v) is holds = holds
of_ok (Err e) is holds = absurd cc

-- what holds if a call fails
pub of_err : {T E P : Type 0} (r : Result T E) → false ≡ is_ok r → OnErr r P → P
of_err (Ok v) is holds = absurd cc
of_err (Err e) is holds = holds

-- the pages that compete, and their ranks
abbrev pub competing : List FrameState → List (Option PageId)
competing frames = map unfixed_page (map frame_view frames)

competing_nth : (frames : List FrameState) (i : ℕ)
    → get_or (competing frames) i None ≡ unfixed_page (frame_view (nth_frame frames i))
competing_nth frames i =
    mapped unfixed_page (map frame_view frames) i (frame_view (fresh_frame [])) ∙ ap unfixed_page (mapped frame_view frames i (fresh_frame []))

pub ranked_keys : {s : PoolState} → IsPool s → (h : HistoryView) → RankedBy s h
    → map eviction_key s.frames ≡ keys_over (references_of h) (competing s.frames)
ranked_keys {s} w h r =
    let rank : Option PageId → Option RankKey = option_map (λ p. rank_key p (hist (references_of h) p)) in
    ext_get_or None (map eviction_key s.frames) (map rank (competing s.frames))
    (length-map s.frames eviction_key ∙ sym (length-map (competing s.frames) rank ∙ length-map (map frame_view s.frames) unfixed_page ∙ length-map s.frames frame_view))
    (λ i _. mapped eviction_key s.frames i (fresh_frame [])
    ∙ at i
    ∙ sym (mapped rank (competing s.frames) i None ∙ ap rank (competing_nth s.frames i)))
  where
    at : (i : ℕ) → eviction_key (nth_frame s.frames i)
        ≡ option_map (λ p. rank_key p (hist (references_of h) p))
        (unfixed_page (frame_view (nth_frame s.frames i)))
    at i = elim ((nth_frame s.frames i).fixes == 0)
        as (λ t. cond t (nth_frame s.frames i).key None ≡ option_map (λ p. rank_key p (hist (references_of h) p)) (cond t (nth_frame s.frames i).page None))
        [ true ↦ r i | false ↦ refl ]

none_set : IsSome {T = RankKey} None → ⊥
none_set h = absurd (cc)

-- the frame of the least rank is unpinned
pub least_there : {s : PoolState} → IsPool s → (i : ℕ)
    → IsLeast key_cmp (map eviction_key s.frames) (Some i) → i < length s.frames
least_there {s} w i l = subst (λ m. i < m) (length-map s.frames eviction_key) l.in_range

pub least_unfixed : {s : PoolState} → IsPool s → (i : ℕ)
    → IsLeast key_cmp (map eviction_key s.frames) (Some i) → (nth_frame s.frames i).fixes ≡ 0
least_unfixed {s} w i l = elim (cases_eq (nth_frame s.frames i).fixes 0) [
  | inl e ↦ e
  | inr ne ↦ absurd (none_set (subst IsSome
      (mapped eviction_key s.frames i (fresh_frame []) ∙ ap (λ t. cond t (nth_frame s.frames i).key None) (ne_eqb (nth_frame s.frames i).fixes 0 ne))
      l.is_set))
]

-- the evicted page is the victim over what the history holds
pub none_leaves : {s : PoolState} → IsPool s → (h : HistoryView) → RankedBy s h
    → IsLeast key_cmp (map eviction_key s.frames) None
    → IsVictim (references_of h) (unfixed_pages (view_of s)) None
none_leaves {s} w h r l = least_key_is_victim (references_of h) (competing s.frames) None (subst (λ keys. IsLeast key_cmp keys None) (ranked_keys w h r) l)

pub one_leaves : {s : PoolState} → IsPool s → (h : HistoryView) → RankedBy s h → (i : ℕ)
    → IsLeast key_cmp (map eviction_key s.frames) (Some i)
    → IsVictim (references_of h) (unfixed_pages (view_of s)) (nth_frame s.frames i).page
one_leaves {s} w h r i l =
    subst (IsVictim (references_of h) (unfixed_pages (view_of s)))
    (competing_nth s.frames i ∙ ap (λ t. cond t (nth_frame s.frames i).page None) (eq-eqb (nth_frame s.frames i).fixes 0 (least_unfixed w i l)))
    (least_key_is_victim (references_of h) (competing s.frames) (Some i) (subst (λ keys. IsLeast key_cmp keys (Some i)) (ranked_keys w h r) l))

-- the frame into which a page is loaded
pub seen_free : {s : PoolState} → IsPool s → (i : ℕ)
    → IsFirstFree (map (λ f. f.page) s.frames) (Some i) → IsLeastFree (view_of s) i
seen_free {s} w i h = record {
  there = subst (λ m. i < m) (length-map s.frames (λ (f : FrameState). f.page) ∙ sym (length-map s.frames frame_view)) h.0;
  free = ap (λ f. f.page) (frame_seen s i) ∙ sym (page_of_nth s.frames i) ∙ h.1;
  least = λ j lt e. h.2 j lt (page_of_nth s.frames j ∙ sym (ap (λ f. f.page) (frame_seen s j)) ∙ e);
}

pub free_there : {s : PoolState} → IsPool s → (i : ℕ)
    → IsFirstFree (map (λ f. f.page) s.frames) (Some i) → i < length s.frames
free_there {s} w i h = subst (λ m. i < m) (length-map s.frames (λ (f : FrameState). f.page)) h.0

pub free_unfixed : {s : PoolState} → IsPool s → (i : ℕ)
    → IsFirstFree (map (λ f. f.page) s.frames) (Some i) → (nth_frame s.frames i).fixes ≡ 0
free_unfixed {s} w i h = (w.bare i (sym (page_of_nth s.frames i) ∙ h.1)).1

pub seen_full : {s : PoolState} → IsPool s → IsFirstFree (map (λ f. f.page) s.frames) None
    → HasNoFreeFrame (view_of s)
seen_full {s} w h i lt e =
    h i (subst (λ m. i < m) (length-map s.frames frame_view ∙ sym (length-map s.frames (λ (f : FrameState). f.page))) lt)
    (page_of_nth s.frames i ∙ sym (ap (λ f. f.page) (frame_seen s i)) ∙ e)

pub some_page : (o : Option PageId) → o ≢ None → (p : PageId) × (o ≡ Some p)
some_page None n = absurd (n refl)
some_page (Some p) n = (p, refl)

pub seen_place : {s : PoolState} → IsPool s → HasNoFreeFrame (view_of s) → (least : Option ℕ)
    → IsLeast key_cmp (map eviction_key s.frames) least
    → (h : HistoryView) → RankedBy s h → IsFrameToLoad h (view_of s) least
seen_place {s} w full None l h r = (full, none_leaves w h r l)
seen_place {s} w full (Some i) l h r =
    let there : i < length (view_of s).frames = subst (λ m. i < m) (sym (length-map s.frames frame_view)) (least_there w i l) in
    let page = some_page (nth_frame s.frames i).page (λ e. full i there (ap (λ f. f.page) (frame_seen s i) ∙ e)) in
    inr (record {
      there = there;
      full = full;
      page = page.0;
      holds = ap (λ f. f.page) (frame_seen s i) ∙ page.1;
      unfixed = ap (λ f. f.fixes) (frame_seen s i) ∙ least_unfixed w i l;
      victim = subst (IsVictim (references_of h) (unfixed_pages (view_of s))) page.1 (one_leaves w h r i l);
    })

pub least_if : (keys : List (Option RankKey)) (P : ℕ → Type 0)
    → ((i : ℕ) → IsLeast key_cmp keys (Some i) → P i) → (least : Option ℕ)
    → IsLeast key_cmp keys least → IfSome least P
least_if keys P holds None l = tt
least_if keys P holds (Some i) l = holds i l

pub seen_there : {s : PoolState} → IsPool s → (i : ℕ) → i < length s.frames
    → i < length (view_of s).frames
seen_there {s} w i h = subst (λ m. i < m) (sym (length-map s.frames frame_view)) h

-- the slot of a frame, of a pool that is seen as v
pub slot_seen : {s v : PoolState} {slot : Slot} (i : ℕ) → s ≡ v → slot ≡ current_slot v i
    → slot ≡ current_slot s i
slot_seen {slot = slot} i seen is = subst (λ x. slot ≡ current_slot x i) (sym seen) is

-- what a caller sees of a frame that was read
pub seen_generation : {s : PoolState} → IsPool s → (i : ℕ) {n : ℕ}
    → n ≡ (nth_frame s.frames i).generation → n ≡ (frame_at (view_of s) i).generation
seen_generation {s} w i e = e ∙ ap (λ f. f.generation) (sym (frame_seen s i))

pub seen_fixes : {s : PoolState} → IsPool s → (i : ℕ) {n : ℕ} → n ≡ (nth_frame s.frames i).fixes
    → n ≡ (frame_at (view_of s) i).fixes
seen_fixes {s} w i e = e ∙ ap (λ f. f.fixes) (sym (frame_seen s i))

pub seen_page : {s : PoolState} → IsPool s → (i : ℕ) (p : PageId)
    → (nth_frame s.frames i).page ≡ Some p → (frame_at (view_of s) i).page ≡ Some p
seen_page {s} w i p e = ap (λ f. f.page) (frame_seen s i) ∙ e

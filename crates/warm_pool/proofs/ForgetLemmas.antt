-- The last pages of a device leave their frames, and are not written.
use Rattle.std.proofs.Common.{◌≡◌, ◌≢◌, ◌⊎◌, ℕ, zero, suc, ◌+◌, ◌<◌, ◌≤◌, ◌==◌, cond, Bool, true, false, IsTrue, List, [], ◌∷◌, length, set, Some, None, refl, sym, ap, ◌∙◌, subst, inl, inr, arith}
use Rattle.std.specs.Prelude.{nat_le}
use Rattle.std.proofs.Math.Path.{ap₂}
use Rattle.std.proofs.lemmas.Bool.{cases_Bool, and_parts, and_from, eqb-true, eq-eqb, false≢true, le-leb, leb-true}
use Rattle.std.proofs.lemmas.List.{length-map, set-get_or}
use Rattle.warm_stamps.specs.declared.PageId.{PageId}
use Rattle.warm_history.specs.Histories.{HistoryView}
use Rattle.warm_devices.specs.Device.{DeviceState}
use Rattle.warm_frame_table.specs.declared.selection.Devices.{Devices}
use Rattle.warm_frame_table.specs.declared.selection.Devices.TheVariants.{PagesFrom}
use Rattle.warm_frame_table.specs.Frames.{FrameState, FramesState, nth_frame, fresh_frame}
use Rattle.warm_frame_table.specs.FrameSteps.{cleaned, vacated, changed_at}
use Rattle.warm_frame_table.specs.Selection.{selects, is_from, vacate_if, vacated_selected}
use Rattle.warm_pool.specs.State.{PoolState, IsPool, RankedBy, nth_device}
use Rattle.warm_pool.specs.View.{stored, view_of, is_page, bytes_in, HasPage}
use Rattle.warm_pool.specs.WritingBack.{clean_if, cleaned_selected}
use Rattle.warm_pool.specs.steps.Retiring.{IsFixedIn, AreUnfixed}
use Rattle.warm_pool.specs.Forgetting.{AreUnfixedFrom, Forgets, IsFixedFrom}
use Rattle.warm_pool.specs.steps.Forgetting.{selected_cleaned}
use Rattle.warm_pool.proofs.PageByteLemmas.{bytes_nowhere, contents_seen, device_seen, frame_seen, page_found}
use Rattle.warm_pool.proofs.PoolLemmas.{pool_from}
use Rattle.warm_pool.proofs.ClosingLemmas.{clean_more}
use Rattle.warm_pool.proofs.EmptyLemmas.{nth_vacated, vacated_pool, vacated_ranked, becomes_empty}

-- Frames that were marked clean

-- a frame that is not selected stays
pub not_selected : (which : Devices) (s : FramesState) (at : ℕ)
    → selects which (nth_frame s.frames at).page ≡ false → s ≡ changed_at s at (clean_if which)
not_selected which s at isnt =
    let f : FrameState = nth_frame s.frames at in
    let same : clean_if which f ≡ f = ap (λ (t : Bool). cond t (cleaned f) f) isnt in
    sym (ap (λ (fs : List FrameState). let x : FramesState = record s { frames = fs } in x) (ap (set s.frames at) same ∙ set-get_or s.frames at (fresh_frame [])))

pub selected : (which : Devices) (s : FramesState) (at : ℕ)
    → selects which (nth_frame s.frames at).page ≡ true
    → changed_at s at cleaned ≡ changed_at s at (clean_if which)
selected which s at is =
    let f : FrameState = nth_frame s.frames at in
    sym (ap (λ (t : Bool). let x : FramesState = record s { frames = set s.frames at (cond t (cleaned f) f) } in x) is)

-- there are as many
pub length-cleaned : (which : Devices) (n : ℕ) (frames : List FrameState)
    → length (cleaned_selected which n frames) ≡ length frames
length-cleaned which zero frames = refl
length-cleaned which (suc n) [] = refl
length-cleaned which (suc n) (f ∷ frames) = ap suc (length-cleaned which n frames)

-- one frame more
pub one_cleaned : (which : Devices) (at : ℕ) (s t u : FramesState) → at < length s.frames
    → t ≡ record s { frames = cleaned_selected which at s.frames }
    → u ≡ changed_at t at (clean_if which)
    → u ≡ record s { frames = cleaned_selected which (at + 1) s.frames }
one_cleaned which at s t u lt so is =
    let one : suc at ≡ at + 1 = omega arith in
    is ∙ ap (λ x. changed_at x at (clean_if which)) so
    ∙ ap (λ (fs : List FrameState). let x : FramesState = record s { frames = fs } in x) (clean_more which at s.frames lt ∙ ap (λ n. cleaned_selected which n s.frames) one)

-- that they are clean is not seen once they left
gone_anyway : (which : Devices) (f : FrameState) → vacate_if which (clean_if which f) ≡ vacate_if which f
gone_anyway which f = elim (cases_Bool (selects which f.page)) [
  | inl is ↦
      ap (λ (t : Bool). vacate_if which (cond t (cleaned f) f)) is
      ∙ ap (λ (t : Bool). cond t (vacated f) (cleaned f)) is
      ∙ sym (ap (λ (t : Bool). cond t (vacated f) f) is)
  | inr isnt ↦ ap (λ (t : Bool). vacate_if which (cond t (cleaned f) f)) isnt
]

pub all_gone : (which : Devices) (n : ℕ) (frames : List FrameState)
    → vacated_selected which (cleaned_selected which n frames) ≡ vacated_selected which frames
all_gone which zero frames = refl
all_gone which (suc n) [] = refl
all_gone which (suc n) (f ∷ frames) = ap₂ (λ (x : FrameState) (rest : List FrameState). x ∷ rest) (gone_anyway which f) (all_gone which n frames)

pub forgotten_frames : (which : Devices) (s t u : FramesState) → t ≡ selected_cleaned which s
    → u ≡ record t { frames = vacated_selected which t.frames }
    → u ≡ record s { frames = vacated_selected which s.frames }
forgotten_frames which s t u clean is =
    is ∙ ap (λ (x : FramesState). let y : FramesState = record x { frames = vacated_selected which x.frames } in y) clean
    ∙ ap (λ (fs : List FrameState). let y : FramesState = record s { frames = fs } in y) (all_gone which (length s.frames) s.frames)

-- Frames that pages left

-- a page that is still there is not selected
left_out : (which : Devices) (f : FrameState) (p : PageId) → (vacate_if which f).page ≡ Some p
    → selects which (Some p) ≡ false
left_out which f p is = elim (cases_Bool (selects which f.page)) [
  | inl on ↦ let no : None ≡ Some p = sym (ap (λ (b : Bool). (cond b (vacated f) f).page) on) ∙ is in absurd (cc)
  | inr isnt ↦
      let held : f.page ≡ Some p = sym (ap (λ (b : Bool). (cond b (vacated f) f).page) isnt) ∙ is in
      sym (ap (selects which) held) ∙ isnt
]

away : (which : Devices) (frames : List FrameState) (p : PageId) → selects which (Some p) ≡ true
    → (i : ℕ) → (nth_frame (vacated_selected which frames) i).page ≢ Some p
away which frames p on i is =
    false≢true (sym (left_out which (nth_frame frames i) p (sym (ap (λ f. f.page) (nth_vacated which frames i)) ∙ is)) ∙ on)

held_kept : (which : Devices) (f : FrameState) (p : PageId) (others : List ℕ)
    → selects which (Some p) ≡ false
    → cond (is_page p (vacate_if which f).page) (vacate_if which f).bytes others
    ≡ cond (is_page p f.page) f.bytes others
held_kept which f p others out = elim (cases_Bool (selects which f.page)) [
  | inl on ↦
      ap (λ (b : Bool). cond (is_page p (cond b (vacated f) f).page) (cond b (vacated f) f).bytes others) on
      ∙ sym (ap (λ (b : Bool). cond b f.bytes others) (not_page on))
  | inr isnt ↦ ap (λ (b : Bool). cond (is_page p (cond b (vacated f) f).page) (cond b (vacated f) f).bytes others) isnt
]
  where
    not_page : selects which f.page ≡ true → is_page p f.page ≡ false
    not_page on = elim (cases_Bool (is_page p f.page)) [
      | inl is ↦ absurd (false≢true (sym out ∙ sym (ap (selects which) (page_found p f.page is)) ∙ on))
      | inr isnt ↦ isnt
    ]

bytes_left : (which : Devices) (frames : List FrameState) (p : PageId) (others : List ℕ)
    → selects which (Some p) ≡ false
    → bytes_in (vacated_selected which frames) p others ≡ bytes_in frames p others
bytes_left which [] p others out = refl
bytes_left which (f ∷ frames) p others out = held_kept which f p (bytes_in (vacated_selected which frames) p others) out ∙ ap (λ rest. cond (is_page p f.page) f.bytes rest) (bytes_left which frames p others out)

-- Which pages these are

is_last : (dev from : ℕ) (p : PageId) → p.dev ≡ dev → from ≤ p.no
    → is_from dev from (Some p) ≡ true
is_last dev from p same beyond = and_from (p.dev == dev) (nat_le from p.no) (eq-eqb p.dev dev same) (le-leb from p.no beyond)

isnt_last : (dev from : ℕ) (p : PageId) → (p.dev ≢ dev) ⊎ (p.no < from)
    → is_from dev from (Some p) ≡ false
isnt_last dev from p which = elim (cases_Bool (is_from dev from (Some p))) [
  | inl is ↦
      let both = and_parts (p.dev == dev) (nat_le from p.no) is in
      elim which [
        | inl ne ↦ absurd (ne (eqb-true p.dev dev both.0))
        | inr lt ↦ let le = leb-true from p.no both.1 in absurd (omega (arith, lt, le))
      ]
  | inr isnt ↦ isnt
]

-- The pool

-- what a caller sees of frames of which none is pinned
unfixed_seen : (s : PoolState) (dev from : ℕ) → AreUnfixed (PagesFrom dev from) s.frames
    → AreUnfixedFrom (view_of s) dev from
unfixed_seen s dev from unfixed i on = ap (λ f. f.fixes) (frame_seen s i) ∙ unfixed i (subst (λ f. IsTrue (is_from dev from f.page)) (frame_seen s i) on)

module _ (s : PoolState) (dev from : ℕ) (there : dev < length s.devices)
    (unfixed : AreUnfixed (PagesFrom dev from) s.frames) where
  abbrev u : PoolState
  u = record s { frames = vacated_selected (PagesFrom dev from) s.frames }

  contents_in : (p : PageId) → HasPage (view_of s) p
      → (p.dev < length s.devices) × (p.no < (nth_device s.devices p.dev).pages)
  contents_in p has = (
    subst (λ n. p.dev < n) (length-map s.devices _) has.device,
    subst (λ d. p.no < d.pages) (device_seen s p.dev) has.number,
  )

  pub forgets : Forgets s dev from u
  forgets = record {
    there = there;
    unfixed = unfixed_seen s dev from unfixed;
    becomes = refl;
    forgotten = λ p has same beyond.
        let in_it = contents_in p has in
        contents_seen u p in_it.0 in_it.1 ∙ bytes_nowhere u.frames p (stored s.devices p) (away (PagesFrom dev from) s.frames p (is_last dev from p same beyond));
    others = λ p has apart.
        let in_it = contents_in p has in
        contents_seen u p in_it.0 in_it.1 ∙ bytes_left (PagesFrom dev from) s.frames p (stored s.devices p) (isnt_last dev from p apart)
        ∙ sym (contents_seen s p in_it.0 in_it.1);
  }

-- the same, if an equation gives the frames
pub forget_pool : (which : Devices) (old new : FramesState) (spare : ℕ) (devices : List DeviceState)
    → IsPool (pool_from old spare devices) → AreUnfixed which old.frames
    → new ≡ record old { frames = vacated_selected which old.frames }
    → IsPool (pool_from new spare devices)
forget_pool which old new spare devices w unfixed is =
    becomes_empty (λ s. IsPool s) which old new spare devices is (vacated_pool which (pool_from old spare devices) unfixed w)

pub forget_ranked : (which : Devices) (old new : FramesState) (spare : ℕ)
    (devices : List DeviceState)
    → new ≡ record old { frames = vacated_selected which old.frames }
    → (h : HistoryView) → RankedBy (pool_from old spare devices) h
    → RankedBy (pool_from new spare devices) h
forget_ranked which old new spare devices is h ranked =
    becomes_empty (λ s. RankedBy s h) which old new spare devices is (vacated_ranked which old.frames h ranked)

pub pool_forgets : (dev from : ℕ) (old new : FramesState) (spare : ℕ) (devices : List DeviceState)
    → dev < length devices → AreUnfixed (PagesFrom dev from) old.frames
    → new ≡ record old { frames = vacated_selected (PagesFrom dev from) old.frames }
    → Forgets (pool_from old spare devices) dev from (pool_from new spare devices)
pool_forgets dev from old new spare devices there unfixed is =
    becomes_empty (λ s. Forgets (pool_from old spare devices) dev from s) (PagesFrom dev from) old new spare devices is
    (forgets (pool_from old spare devices) dev from there unfixed)

-- why they may be, or not, of the state of a pool
pub unfixed_from : (s : PoolState) (dev from : ℕ) → IsPool s
    → AreUnfixed (PagesFrom dev from) s.frames
    → AreUnfixedFrom (view_of s) dev from
unfixed_from s dev from pool unfixed = unfixed_seen s dev from unfixed

pub fixed_from : (s : PoolState) (dev from : ℕ) → IsPool s
    → IsFixedIn (PagesFrom dev from) s.frames
    → IsFixedFrom (view_of s) dev from
fixed_from s dev from pool fixed = record {
  frame = fixed.frame;
  there = subst (λ n. fixed.frame < n) (sym (length-map s.frames _)) fixed.there;
  is = subst (λ f. IsTrue (is_from dev from f.page)) (sym (frame_seen s fixed.frame)) fixed.selected;
  fixed = subst (λ f. 0 < f.fixes) (sym (frame_seen s fixed.frame)) fixed.fixed;
}

-- A pool one of whose devices was replaced.
use Rattle.std.proofs.Common.{◌≡◌, ◌≢◌, ℕ, ◌<◌, ◌≤◌, cond, true, false, IsTrue, List, [], ◌∷◌, length, map, set, Bool, Some, None, refl, sym, ap, ◌∙◌, subst, inl, inr, get_or-set_same, get_or-set_other}
use Rattle.std.proofs.Math.Path.{ap₂}
use Rattle.std.proofs.lemmas.Bool.{cases_eq, cases_Bool, eqb-true, eq-eqb, false≢true}
use Rattle.std.proofs.lemmas.List.{length-map, length-set, map-set}
use Rattle.warm_stamps.specs.declared.PageId.{PageId}
use Rattle.warm_history.specs.Histories.{HistoryView}
use Rattle.warm_devices.specs.Device.{DeviceState, SameShape, page_at}
use Rattle.warm_frame_table.specs.declared.selection.Devices.{Devices}
use Rattle.warm_frame_table.specs.declared.selection.Devices.TheVariants.{One}
use Rattle.warm_frame_table.specs.Frames.{FrameState, FramesState, nth_frame}
use Rattle.warm_frame_table.specs.FrameSteps.{vacated}
use Rattle.warm_frame_table.specs.Selection.{is_on, vacate_if, vacated_selected, AreClean}
use Rattle.warm_frame_table.proofs.ListLemmas.{at_set}
use Rattle.warm_pool.specs.State.{PoolState, IsPool, RankedBy, nth_device, no_device}
use Rattle.warm_pool.specs.View.{stored, view_of, frame_view, device_view, is_page, bytes_in, FrameView, HasPage, contents_at}
use Rattle.warm_pool.specs.Unchanged.{FailsAt}
use Rattle.warm_pool.specs.WritingBack.{KeptDevices, WritesBack, cleaned_selected}
use Rattle.warm_pool.specs.WritingSome.{KeepsOtherDevices}
use Rattle.warm_pool.specs.Retiring.{Retired, MayRetire, IsFixedOn, emptied, KeepsElsewhere, retired}
use Rattle.warm_pool.specs.steps.Retiring.{IsFixedIn, AreUnfixed, PreparesRetire}
use Rattle.warm_pool.specs.steps.Flushes.{IsFlushed, FlushFails}
use Rattle.warm_pool.proofs.FlushLemmas.{same_shape}
use Rattle.warm_pool.proofs.DeviceCallLemmas.{failures_kept, failures_grown}
use Rattle.warm_pool.proofs.PageByteLemmas.{bytes_nowhere, contents_seen, device_seen, frame_seen, page_found}
use Rattle.warm_pool.proofs.PoolLemmas.{pool_from, view_of_kept}
use Rattle.warm_pool.proofs.SettleLemmas.{AreAlike, counts, alike_kept, down_view, flush_down, flush_fails_at}
use Rattle.warm_pool.proofs.ClosingLemmas.{nth_other, clean_to}
use Rattle.warm_pool.proofs.OtherDeviceLemmas.{flushed_others}
use Rattle.warm_pool.proofs.EmptyLemmas.{nth_vacated, vacated_pool, vacated_ranked, unfixed_to}

-- One device replaced or flushed

pub exchanged : {A : Type 0} (f : A → DeviceState) (xs : List A) (at : ℕ) (x y : A) → y ≡ x
    → map f (set xs at y) ≡ set (map f xs) at (f x)
exchanged f xs at x y same = map-set f xs at y ∙ ap (λ z. set (map f xs) at (f z)) same

pub one_alike : (devices : List DeviceState) (k : ℕ) (after : DeviceState) → k < length devices
    → SameShape (nth_device devices k) after → after.contents ≡ (nth_device devices k).contents
    → AreAlike devices (set devices k after)
one_alike devices k after lt shape contents = record {
  count = length-set devices k after;
  each = at_set no_device (λ j d. SameShape (nth_device devices j) d × (d.contents ≡ (nth_device devices j).contents)) devices k after lt (shape, contents) (λ j ne. (same_shape (nth_device devices j), refl));
}

pub one_kept : (frames : List FrameState) (old new : List DeviceState) (k : ℕ) (after : DeviceState)
    → k < length old → new ≡ set old k after → SameShape (nth_device old k) after
    → after.contents ≡ (nth_device old k).contents → KeptDevices frames old new
one_kept frames old new k after lt is shape contents = alike_kept frames old new (subst (λ ds. AreAlike old ds) (sym is) (one_alike old k after lt shape contents))

pub down_there : {frames : List FrameState} {s t : PoolState} {k : ℕ} → WritesBack frames s t
    → k < length s.devices → k < length t.devices
down_there {k = k} down there = subst (λ n. k < n) (sym down.devices.count) there

-- the flush of the device after its pages were written back
pub flush_one_down : (which : Devices) (n : ℕ) (s t u : PoolState) (k : ℕ) (after : DeviceState)
    → WritesBack (cleaned_selected which n s.frames) s t → k < length s.devices
    → u.frames ≡ t.frames → (u.page_size ≡ t.page_size) × (u.spare ≡ t.spare)
    → u.devices ≡ set t.devices k after → IsFlushed (nth_device t.devices k) after
    → WritesBack (cleaned_selected which n s.frames) s u
flush_one_down which n s t u k after down there frames same is flushed =
    let lt = down_there down there in
    flush_down which n s t u down frames same
    (subst (λ ds. AreAlike t.devices ds) (sym is) (one_alike t.devices k after lt flushed.shape flushed.contents))
    (failures_kept t.devices u.devices k after is flushed.failures)

pub flush_one_fails : (which : Devices) (n : ℕ) (s t u : PoolState) (k : ℕ) (after : DeviceState)
    → WritesBack (cleaned_selected which n s.frames) s t → k < length s.devices
    → u.frames ≡ t.frames → (u.page_size ≡ t.page_size) × (u.spare ≡ t.spare)
    → u.devices ≡ set t.devices k after → FlushFails (nth_device t.devices k) after
    → FailsAt (view_of s) k (view_of u)
flush_one_fails which n s t u k after down there frames same is fails =
    let lt = down_there down there in
    let alike : AreAlike t.devices u.devices = subst (λ ds. AreAlike t.devices ds) (sym is) (one_alike t.devices k after lt fails.shape fails.contents) in
    let moved : view_of u ≡ view_of (record t { devices = u.devices }) = λ i. view_of (record { page_size = same.0 i; spare = same.1 i; frames = frames i; devices = u.devices }) in
    let seen : view_of u ≡ record (view_of t) { failures = counts u.devices } = moved ∙ view_of_kept t u.devices (alike_kept t.frames t.devices u.devices alike) in
    flush_fails_at which n s t u k down (seen ∙ (λ i. record (view_of t) { failures = failures_grown t.devices u.devices k after is fails.failures i })) lt fails.may

-- Frames of which those of one device were emptied

off_device : (dev : ℕ) (f : FrameState) (p : PageId) → (vacate_if (One dev) f).page ≡ Some p
    → p.dev ≢ dev
off_device dev f p is same = elim (cases_Bool (is_on dev f.page)) [
  | inl on ↦ let no : None ≡ Some p = sym (ap (λ b. (cond b (vacated f) f).page) on) ∙ is in absurd (cc)
  | inr isnt ↦
      let held : f.page ≡ Some p = sym (ap (λ b. (cond b (vacated f) f).page) isnt) ∙ is in
      absurd (false≢true (sym isnt ∙ ap (is_on dev) held ∙ eq-eqb p.dev dev same))
]

away_from : (dev : ℕ) (frames : List FrameState) (i : ℕ) (p : PageId)
    → (nth_frame (vacated_selected (One dev) frames) i).page ≡ Some p → p.dev ≢ dev
away_from dev frames i p is = off_device dev (nth_frame frames i) p (sym (ap (λ f. f.page) (nth_vacated (One dev) frames i)) ∙ is)

held_vacated : (dev : ℕ) (f : FrameState) (p : PageId) (others : List ℕ) → p.dev ≢ dev
    → cond (is_page p (vacate_if (One dev) f).page) (vacate_if (One dev) f).bytes others
    ≡ cond (is_page p f.page) f.bytes others
held_vacated dev f p others ne = elim (cases_Bool (is_on dev f.page)) [
  | inl on ↦
      ap (λ b. cond (is_page p (cond b (vacated f) f).page) (cond b (vacated f) f).bytes others) on
      ∙ sym (ap (λ b. cond b f.bytes others) (not_page on))
  | inr isnt ↦ ap (λ b. cond (is_page p (cond b (vacated f) f).page) (cond b (vacated f) f).bytes others) isnt
]
  where
    not_page : is_on dev f.page ≡ true → is_page p f.page ≡ false
    not_page on = elim (cases_Bool (is_page p f.page)) [
      | inl is ↦ absurd (ne (eqb-true p.dev dev (sym (ap (is_on dev) (page_found p f.page is)) ∙ on)))
      | inr isnt ↦ isnt
    ]

bytes_vacated : (dev : ℕ) (frames : List FrameState) (p : PageId) (others : List ℕ) → p.dev ≢ dev
    → bytes_in (vacated_selected (One dev) frames) p others ≡ bytes_in frames p others
bytes_vacated dev [] p others ne = refl
bytes_vacated dev (f ∷ frames) p others ne = held_vacated dev f p (bytes_in (vacated_selected (One dev) frames) p others) ne ∙ ap (λ rest. cond (is_page p f.page) f.bytes rest) (bytes_vacated dev frames p others ne)

abbrev emptied_on : ℕ → FrameView → FrameView
emptied_on dev f = cond (is_on dev f.page) (emptied f) f

one_seen : (dev : ℕ) (f : FrameState)
    → frame_view (vacate_if (One dev) f) ≡ emptied_on dev (frame_view f)
one_seen dev f = elim (is_on dev f.page) as (λ b. frame_view (cond b (vacated f) f) ≡ cond b (emptied (frame_view f)) (frame_view f)) [ true ↦ refl | false ↦ refl ]

seen_vacated : (dev : ℕ) (frames : List FrameState)
    → map frame_view (vacated_selected (One dev) frames)
    ≡ map (emptied_on dev) (map frame_view frames)
seen_vacated dev [] = refl
seen_vacated dev (f ∷ frames) = ap₂ (λ (x : FrameView) (rest : List FrameView). x ∷ rest) (one_seen dev f) (seen_vacated dev frames)

-- The pool with the other device

pub may_retire : (s : PoolState) (dev : ℕ) (device : DeviceState) → dev < length s.devices
    → device.page_size ≡ s.page_size → AreUnfixed (One dev) s.frames
    → MayRetire (view_of s) dev device
may_retire s dev device there size unfixed = record {
  there = subst (λ n. dev < n) (sym (length-map s.devices _)) there;
  size = size;
  unfixed = λ i on. ap (λ f. f.fixes) (frame_seen s i) ∙ unfixed i (subst (λ f. IsTrue (is_on dev f.page)) (frame_seen s i) on);
}

module _ (dev : ℕ) (t : PoolState) (device : DeviceState) (there : dev < length t.devices)
    (size : device.page_size ≡ t.page_size) (unfixed : AreUnfixed (One dev) t.frames) where
  abbrev u : PoolState
  u = retired t dev device

  new_here : nth_device u.devices dev ≡ device
  new_here = get_or-set_same t.devices dev device no_device there

  new_other : (k : ℕ) → k ≢ dev → nth_device u.devices k ≡ nth_device t.devices k
  new_other k ne = get_or-set_other t.devices dev k device no_device ne

  same_count : length u.devices ≡ length t.devices
  same_count = length-set t.devices dev device

  pub retired_pool : IsPool t → IsPool u
  retired_pool w =
      let v = vacated_pool (One dev) t unfixed w in
      record {
        some_frames = v.some_frames;
        few_frames = v.few_frames;
        some_bytes = w.some_bytes;
        few_bytes = w.few_bytes;
        few_devices = subst (λ n. n ≤ 65536) (sym same_count) w.few_devices;
        spare_size = w.spare_size;
        frame_size = v.frame_size;
        device_size = λ k low. elim (cases_eq k dev) [
          | inl e ↦ subst (λ m. (nth_device u.devices m).page_size ≡ t.page_size) (sym e) (ap (λ d. d.page_size) new_here ∙ size)
          | inr ne ↦ ap (λ d. d.page_size) (new_other k ne) ∙ w.device_size k (subst (λ n. k < n) same_count low)
        ];
        has_device = λ i p is. subst (λ n. p.dev < n) (sym same_count) (v.has_device i p is);
        has_page = λ i p is. subst (λ d. p.no < d.pages) (sym (new_other p.dev (away_from dev t.frames i p is))) (v.has_page i p is);
        once = v.once;
        clean = λ i p is clean honest.
            let same = new_other p.dev (away_from dev t.frames i p is) in
            v.clean i p is clean (subst (λ d. IsTrue d.honest) same honest) ∙ ap (λ d. page_at d.contents p.no) (sym same);
        bare = v.bare;
      }

  new_contents : (n : ℕ) → n < device.pages
      → contents_at (view_of u) (record { dev = dev; no = n })
      ≡ cond device.honest (page_at device.contents n) []
  new_contents n low =
      let p : PageId = record { dev = dev; no = n } in
      contents_seen u p (subst (λ m. dev < m) (sym same_count) there) (subst (λ d. n < d.pages) (sym new_here) low)
      ∙ bytes_nowhere u.frames p (stored u.devices p) (λ i is. away_from dev t.frames i p is refl)
      ∙ ap (λ d. cond d.honest (page_at d.contents n) []) new_here

  other_contents : (p : PageId) → HasPage (view_of t) p → p.dev ≢ dev
      → contents_at (view_of u) p ≡ contents_at (view_of t) p
  other_contents p has ne =
      let same = new_other p.dev ne in
      let low : p.dev < length t.devices = subst (λ n. p.dev < n) (length-map t.devices _) has.device in
      let number : p.no < (nth_device t.devices p.dev).pages = subst (λ d. p.no < d.pages) (device_seen t p.dev) has.number in
      contents_seen u p (subst (λ n. p.dev < n) (sym same_count) low) (subst (λ d. p.no < d.pages) (sym same) number)
      ∙ bytes_vacated dev t.frames p (stored u.devices p) ne
      ∙ ap (λ d. bytes_in t.frames p (cond d.honest (page_at d.contents p.no) [])) same
      ∙ sym (contents_seen t p low number)

  retired_seen : Retired (view_of t) dev device (view_of u)
  retired_seen = record {
    may = may_retire t dev device there size unfixed;
    becomes = λ i. record {
      page_size = t.page_size;
      devices = map-set device_view t.devices dev device i;
      frames = seen_vacated dev t.frames i;
      contents = (view_of u).contents;
      failures = map-set (λ d. d.failures) t.devices dev device i;
    };
    contents = new_contents;
    others = other_contents;
  }

  pub retired_view : (s : PoolState) → view_of t ≡ view_of s
      → Retired (view_of s) dev device (view_of u)
  retired_view s same = subst (λ v. Retired v dev device (view_of u)) same retired_seen

-- the same, if equations give frames and devices
pub took_in : (old new : FramesState) (spare : ℕ) (devices later : List DeviceState) (dev : ℕ)
    (device : DeviceState) → IsPool (pool_from old spare devices) → dev < length devices
    → device.page_size ≡ old.page_size
    → AreUnfixed (One dev) old.frames
    → new ≡ record old { frames = vacated_selected (One dev) old.frames }
    → later ≡ set devices dev device → IsPool (pool_from new spare later)
took_in old new spare devices later dev device w there size unfixed is becomes =
    subst (λ (f : FramesState). IsPool (pool_from f spare later)) (sym is)
    (subst (λ ds. IsPool (pool_from (record old { frames = vacated_selected (One dev) old.frames }) spare ds)) (sym becomes)
    (retired_pool dev (pool_from old spare devices) device there size unfixed w))

-- why a device isn't retired
pub fixed_on : (s : PoolState) (dev : ℕ) → IsPool s → IsFixedIn (One dev) s.frames
    → IsFixedOn (view_of s) dev
fixed_on s dev w fixed = record {
  frame = fixed.frame;
  there = subst (λ n. fixed.frame < n) (sym (length-map s.frames _)) fixed.there;
  on = subst (λ f. IsTrue (is_on dev f.page)) (sym (frame_seen s fixed.frame)) fixed.selected;
  fixed = subst (λ f. 0 < f.fixes) (sym (frame_seen s fixed.frame)) fixed.fixed;
}

-- What is known once way was made

pub way_unfixed : (s t : PoolState) (dev size : ℕ) → PreparesRetire s dev size t
    → AreUnfixed (One dev) t.frames
way_unfixed s t dev size way = unfixed_to (One dev) (length s.frames) s.frames t.frames way.down.becomes way.unfixed

pub way_clean : (s t : PoolState) (dev size : ℕ) → PreparesRetire s dev size t
    → AreClean (One dev) t.frames
way_clean s t dev size way = clean_to (One dev) s.frames t.frames way.down.becomes

pub retire_view : (s t u : PoolState) (dev size : ℕ) (device : DeviceState)
    → PreparesRetire s dev size t → size ≡ device.page_size → u ≡ retired t dev device
    → Retired (view_of s) dev device (view_of u)
retire_view s t u dev size device way same is =
    subst (λ x. Retired (view_of s) dev device (view_of x)) (sym is)
    (retired_view dev t device (down_there way.down way.there) (sym same ∙ way.size ∙ sym way.down.same.0) (way_unfixed s t dev size way) s (down_view (One dev) (length s.frames) s t way.down))

pub retire_ranked : (t u : PoolState) (dev : ℕ) (device : DeviceState) (h : HistoryView)
    → u ≡ retired t dev device → RankedBy t h → RankedBy u h
retire_ranked t u dev device h is ranked = subst (λ x. RankedBy x h) (sym is) (vacated_ranked (One dev) t.frames h ranked)

-- frames of other devices, after the pages of one were written back, and after these were evicted
pub elsewhere_cleaned : (dev n : ℕ) (old new : List FrameState)
    → new ≡ cleaned_selected (One dev) n old
    → (i : ℕ) → is_on dev (nth_frame old i).page ≡ false → nth_frame new i ≡ nth_frame old i
elsewhere_cleaned dev n old new is i not = ap (λ frames. nth_frame frames i) is ∙ nth_other (One dev) n old i not

pub elsewhere_retired : (s t u : PoolState) (dev : ℕ) (device : DeviceState)
    → KeepsElsewhere dev s t → u ≡ retired t dev device → KeepsElsewhere dev s u
elsewhere_retired s t u dev device kept is i not =
    let stays : is_on dev (nth_frame t.frames i).page ≡ false = ap (λ f. is_on dev f.page) (kept i not) ∙ not in
    ap (λ x. nth_frame x.frames i) is ∙ nth_vacated (One dev) t.frames i
    ∙ ap (λ (b : Bool). cond b (vacated (nth_frame t.frames i)) (nth_frame t.frames i)) stays ∙ kept i not

-- and the other devices
pub others_retired : (s t u : PoolState) (dev : ℕ) (device : DeviceState)
    → KeepsOtherDevices dev s t → u ≡ retired t dev device → KeepsOtherDevices dev s u
others_retired s t u dev device kept is k apart = flushed_others dev t.devices u.devices device (ap (λ x. x.devices) is) k apart ∙ kept k apart

-- The bytes of each page, by where the page is.
use Rattle.std.proofs.Common.{◌≡◌, ◌≢◌, ◌⊎◌, ℕ, zero, suc, ◌<◌, ◌≤◌, ◌==◌, cond, true, false, List, [], ◌∷◌, length, map, set, get_or, Option, Some, None, refl, sym, ◌∙◌, ap, subst, inl, inr, arith}
use Rattle.std.proofs.Math.Path.{ap₂, fun_ext}
use Rattle.std.specs.List.{range_with_len}
use Rattle.std.proofs.lemmas.Bool.{cases_lt, cases_Bool, and_parts, and_from, eqb-true, eq-eqb}
use Rattle.std.proofs.lemmas.List.{get_or_past}
use Rattle.std.proofs.lemmas.List.FromFn.{get_or-map-range_with_len, length-map-range_with_len}
use Rattle.std.proofs.Math.ListN.{get_or-map as mapped}
use Rattle.warm_stamps.specs.declared.PageId.{PageId}
use Rattle.warm_devices.specs.Device.{DeviceState}
use Rattle.warm_frame_table.specs.Frames.{FrameState, nth_frame}
use Rattle.warm_pool.specs.State.{PoolState, IsPool, IsNowhere, nth_device}
use Rattle.warm_pool.specs.View.{is_page, bytes_in, bytes_of, contents_of, frame_view, device_view, view_of, frame_at, device_at, contents_at, IsAbsent}

-- a page by its two numbers
pub same_page : (p q : PageId) → p.dev ≡ q.dev → p.no ≡ q.no → p ≡ q
same_page p q a b = ap₂ (λ (d n : ℕ). let r : PageId = record { dev = d; no = n } in r) a b

pub page_found : (p : PageId) (o : Option PageId) → is_page p o ≡ true → o ≡ Some p
page_found p None e = absurd (cc)
page_found p (Some q) e =
    let both = and_parts (q.dev == p.dev) (q.no == p.no) e in
    ap Some (same_page q p (eqb-true q.dev p.dev both.0) (eqb-true q.no p.no both.1))

pub found_page : (p : PageId) (o : Option PageId) → o ≡ Some p → is_page p o ≡ true
found_page p o e = ap (is_page p) e ∙ and_from (p.dev == p.dev) (p.no == p.no) (eq-eqb p.dev p.dev refl) (eq-eqb p.no p.no refl)

-- the frame that holds a page gives its bytes, whatever they would be elsewhere
pub record IsHeld (frames : List FrameState) (p : PageId) : Type 0 where
  pub frame : ℕ
  pub there : frame < length frames
  pub holds : (nth_frame frames frame).page ≡ Some p
  pub bytes : (others : List ℕ) → bytes_in frames p others ≡ (nth_frame frames frame).bytes

pub record IsElsewhere (frames : List FrameState) (p : PageId) : Type 0 where
  pub nowhere : IsNowhere frames p
  pub bytes : (others : List ℕ) → bytes_in frames p others ≡ others

first_frame : (f : FrameState) (fs : List FrameState) (p : PageId) → is_page p f.page ≡ true
    → IsHeld (f ∷ fs) p
first_frame f fs p e = record {
  frame = 0;
  there = omega arith;
  holds = page_found p f.page e;
  bytes = λ others. ap (λ t. cond t f.bytes (bytes_in fs p others)) e;
}

later_frame : (f : FrameState) (fs : List FrameState) (p : PageId) → is_page p f.page ≡ false
    → IsHeld fs p → IsHeld (f ∷ fs) p
later_frame f fs p e h =
    let low : h.frame < length fs = h.there in
    record {
      frame = suc h.frame;
      there = omega arith;
      holds = h.holds;
      bytes = λ others. ap (λ t. cond t f.bytes (bytes_in fs p others)) e ∙ h.bytes others;
    }

no_frame : (f : FrameState) (fs : List FrameState) (p : PageId) → is_page p f.page ≡ false
    → IsElsewhere fs p → IsElsewhere (f ∷ fs) p
no_frame f fs p e h = record {
  nowhere = away;
  bytes = λ others. ap (λ t. cond t f.bytes (bytes_in fs p others)) e ∙ h.bytes others;
}
  where
    away : (i : ℕ) → (nth_frame (f ∷ fs) i).page ≢ Some p
    away zero is = let no : true ≡ false = sym (found_page p f.page is) ∙ e in absurd (cc)
    away (suc i) is = h.nowhere i is

pub where_is : (frames : List FrameState) (p : PageId) → IsHeld frames p ⊎ IsElsewhere frames p
where_is [] p = inr (record { nowhere = λ i e. let no : None ≡ Some p = e in absurd (cc); bytes = λ others. refl })
where_is (f ∷ fs) p = elim (cases_Bool (is_page p f.page)) [
  | inl e ↦ inl (first_frame f fs p e)
  | inr e ↦ elim (where_is fs p) [
    | inl h ↦ inl (later_frame f fs p e h)
    | inr h ↦ inr (no_frame f fs p e h)
  ]
]

pub bytes_nowhere : (frames : List FrameState) (p : PageId) (others : List ℕ) → IsNowhere frames p
    → bytes_in frames p others ≡ others
bytes_nowhere frames p others away = elim (where_is frames p) [
  | inl h ↦ absurd (away h.frame h.holds)
  | inr h ↦ h.bytes others
]

pub bytes_held : (s : PoolState) (i : ℕ) (p : PageId) (others : List ℕ) → IsPool s
    → (nth_frame s.frames i).page ≡ Some p
    → bytes_in s.frames p others ≡ (nth_frame s.frames i).bytes
bytes_held s i p others w e = elim (where_is s.frames p) [
  | inl h ↦ h.bytes others ∙ ap (λ n. (nth_frame s.frames n).bytes) (w.once h.frame i p h.holds e)
  | inr h ↦ absurd (h.nowhere i e)
]

-- what the page would be elsewhere counts only if it is in no frame
pub bytes_alike : (frames : List FrameState) (p : PageId) (a b : List ℕ)
    → (IsNowhere frames p → a ≡ b) → bytes_in frames p a ≡ bytes_in frames p b
bytes_alike frames p a b same = elim (where_is frames p) [
  | inl h ↦ h.bytes a ∙ sym (h.bytes b)
  | inr h ↦ h.bytes a ∙ same h.nowhere ∙ sym (h.bytes b)
]

-- a frame that changed, but neither its page nor its bytes
pub bytes_kept : (frames : List FrameState) (p : PageId) (others : List ℕ) (i : ℕ) (g : FrameState)
    → g.page ≡ (nth_frame frames i).page → g.bytes ≡ (nth_frame frames i).bytes
    → bytes_in (set frames i g) p others ≡ bytes_in frames p others
bytes_kept [] p others i g a b = refl
bytes_kept (f ∷ fs) p others zero g a b =
    ap (λ o. cond (is_page p o) g.bytes (bytes_in fs p others)) a ∙ ap (λ t. cond (is_page p f.page) t (bytes_in fs p others)) b
bytes_kept (f ∷ fs) p others (suc i) g a b = ap (λ t. cond (is_page p f.page) f.bytes t) (bytes_kept fs p others i g a b)

-- the table of contents, if each page has the bytes that it had
pub contents_same : (frames gs : List FrameState) (ds es : List DeviceState) → length es ≡ length ds
    → ((k : ℕ) → (nth_device es k).pages ≡ (nth_device ds k).pages)
    → ((p : PageId) → bytes_of gs es p ≡ bytes_of frames ds p)
    → contents_of gs es ≡ contents_of frames ds
contents_same frames gs ds es count pages same =
    ap₂ (λ (row : ℕ → List (List ℕ)) (n : ℕ). map row (range_with_len 0 n))
    (fun_ext (λ k. ap₂ (λ (page : ℕ → List ℕ) (n : ℕ). map page (range_with_len 0 n)) (fun_ext (λ n. same (record { dev = k; no = n }))) (pages k)))
    count

-- what a view says of a frame, of a device and of a page
pub frame_seen : (s : PoolState) (i : ℕ)
    → frame_at (view_of s) i ≡ frame_view (nth_frame s.frames i)
frame_seen s i = mapped frame_view s.frames i _

pub device_seen : (s : PoolState) (k : ℕ)
    → device_at (view_of s) k ≡ device_view (nth_device s.devices k)
device_seen s k = mapped device_view s.devices k _

abbrev pub row : List FrameState → List DeviceState → ℕ → List (List ℕ)
row frames devices k = map (λ n. bytes_of frames devices (record { dev = k; no = n })) (range_with_len 0 (nth_device devices k).pages)

pub contents_seen : (s : PoolState) (p : PageId) → p.dev < length s.devices
    → p.no < (nth_device s.devices p.dev).pages
    → contents_at (view_of s) p ≡ bytes_of s.frames s.devices p
contents_seen s p d n =
    ap (λ r. get_or r p.no []) (get_or-map-range_with_len (row s.frames s.devices) 0 (length s.devices) p.dev p.dev [] d (omega arith))
    ∙ get_or-map-range_with_len (λ m. bytes_of s.frames s.devices (record { dev = p.dev; no = m })) 0 (nth_device s.devices p.dev).pages p.no p.no [] n (omega arith)

-- a page that no device has has no bytes
pub contents_beyond : (s : PoolState) (p : PageId) → (nth_device s.devices p.dev).pages ≤ p.no
    → contents_at (view_of s) p ≡ []
contents_beyond s p n = elim (cases_lt p.dev (length s.devices)) [
  | inl d ↦
      ap (λ r. get_or r p.no []) (get_or-map-range_with_len (row s.frames s.devices) 0 (length s.devices) p.dev p.dev [] d (omega arith))
      ∙ get_or_past (row s.frames s.devices p.dev) p.no []
      (subst (λ m. m ≤ p.no) (sym (length-map-range_with_len (λ m. bytes_of s.frames s.devices (record { dev = p.dev; no = m })) 0 (nth_device s.devices p.dev).pages)) n)
  | inr d ↦
      ap (λ r. get_or r p.no []) (get_or_past (contents_of s.frames s.devices) p.dev []
      (subst (λ m. m ≤ p.dev) (sym (length-map-range_with_len (row s.frames s.devices) 0 (length s.devices))) d))
]

pub device_there : (ds : List DeviceState) (k n : ℕ) → n < (nth_device ds k).pages → k < length ds
device_there ds k n h = elim (cases_lt k (length ds)) [
  | inl lt ↦ lt
  | inr ge ↦ let none : (nth_device ds k).pages ≡ 0 = ap (λ d. d.pages) (get_or_past ds k _ ge) in absurd (omega arith)
]

pub nowhere_seen : (s : PoolState) (p : PageId) → IsAbsent (view_of s) p → IsNowhere s.frames p
nowhere_seen s p away i e = away i (ap (λ f. f.page) (frame_seen s i) ∙ e)

pub absent_seen : (s : PoolState) (p : PageId) → IsNowhere s.frames p → IsAbsent (view_of s) p
absent_seen s p away i e = away i (sym (ap (λ f. f.page) (frame_seen s i)) ∙ e)

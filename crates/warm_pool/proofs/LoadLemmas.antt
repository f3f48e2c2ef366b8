-- A page is loaded into a frame: it was read, the page in the frame was written back, and then the
-- two were swapped.
use Rattle.std.proofs.Common.{◌≡◌, ◌≢◌, ℕ, ◌<◌, cond, true, false, IsTrue, [], length, set, Some, Result, Ok, Err, OnOk, OnErr, is_err, refl, sym, ◌∙◌, ap, subst, inl, inr}
use Rattle.std.proofs.lemmas.Bool.{cases_eq, cases_lt}
use Rattle.std.proofs.lemmas.Option.{same_Some}
use Rattle.std.proofs.lemmas.List.{length-map, get_or-set_same, get_or-set_other}
use Rattle.warm_stamps.specs.declared.PageId.{PageId}
use Rattle.warm_devices.specs.Device.{page_at}
use Rattle.warm_devices.specs.declared.fault.DeviceFault.{DeviceFault}
use Rattle.warm_frame_table.specs.Frames.{FrameState, nth_frame, fresh_frame}
use Rattle.warm_pool.specs.State.{PoolState, IsPool, IsNowhere, nth_device}
use Rattle.warm_pool.specs.View.{stored, bytes_of, device_view, frame_view, view_of, contents_at, IsResident}
use Rattle.warm_pool.specs.Unchanged.{KeepsContents}
use Rattle.warm_pool.proofs.PageByteLemmas.{where_is, bytes_held, bytes_nowhere, contents_seen, contents_beyond, device_there, frame_seen, device_seen, nowhere_seen}
use Rattle.warm_pool.proofs.PoolLemmas.{Fits, set_keeps_pool, stored_honest}

-- the outcome of a call, from a test of it
pub ok_if_no_err : {E : Type 0} (r : Result (Unit {0}) E) → false ≡ is_err r → r ≡ Ok tt
ok_if_no_err (Ok x) h = refl
ok_if_no_err (Err e) h = absurd (cc)

pub on_ok : {E P : Type 0} (r : Result (Unit {0}) E) → r ≡ Ok tt → OnOk r P → P
on_ok {E} {P} r e h = subst (λ q. OnOk q P) e h

pub record Failed (r : Result (Unit {0}) DeviceFault) : Type 0 where
  pub fault : DeviceFault
  pub is : r ≡ Err fault

pub err_if : (r : Result (Unit {0}) DeviceFault) → true ≡ is_err r → Failed r
err_if (Ok x) h = absurd (cc)
err_if (Err e) h = record { fault = e; is = refl }

-- no device has bytes of a page of its that is in no frame, unless it is honest
pub contents_absent : (s : PoolState) (q : PageId) → (nth_device s.devices q.dev).honest ≡ false
    → IsNowhere s.frames q → contents_at (view_of s) q ≡ []
contents_absent s q lies away = elim (cases_lt q.no (nth_device s.devices q.dev).pages) [
  | inl lt ↦ contents_seen s q (device_there s.devices q.dev q.no lt) lt ∙ bytes_nowhere s.frames q (stored s.devices q) away
      ∙ ap (λ t. cond t (page_at (nth_device s.devices q.dev).contents q.no) []) lies
  | inr ge ↦ contents_beyond s q ge
]

pub on_err : {P : Type 0} (r : Result (Unit {0}) DeviceFault) → Failed r → OnErr r P → P
on_err {P} r f h = subst (λ q. OnErr q P) f.is h

-- a resident page has the size of a page
pub held_size : (s : PoolState) → IsPool s → (q : PageId) → IsResident (view_of s) q
    → length (contents_at (view_of s) q) ≡ s.page_size
held_size s w q is =
    let holds : (nth_frame s.frames is.frame).page ≡ Some q = sym (ap (λ f. f.page) (frame_seen s is.frame)) ∙ is.holds in
    let there : is.frame < length s.frames = subst (λ n. is.frame < n) (length-map s.frames frame_view) is.there in
    ap length (contents_seen s q (w.has_device is.frame q holds) (w.has_page is.frame q holds) ∙ bytes_held s is.frame q (stored s.devices q) w holds)
    ∙ w.frame_size is.frame there

-- a page that is in no frame is loaded into one whose page is clean
pub record PutsPage (s : PoolState) (i : ℕ) (g : FrameState) (p : PageId) : Type 0 where
  pub fits : Fits s i g
  pub page : g.page ≡ Some p
  pub clean : g.dirty ≡ false
  pub was_clean : (nth_frame s.frames i).dirty ≡ false
  pub nowhere : IsNowhere s.frames p

module _ (s : PoolState) (i : ℕ) (g : FrameState) (p : PageId) (w : IsPool s)
    (h : PutsPage s i g p) where
  there_g : nth_frame (set s.frames i g) i ≡ g
  there_g = get_or-set_same s.frames i g (fresh_frame []) h.fits.there

  other_g : (j : ℕ) → j ≢ i → nth_frame (set s.frames i g) j ≡ nth_frame s.frames j
  other_g j ne = get_or-set_other s.frames i j g (fresh_frame []) ne

  pub put_pool : IsPool (record s { frames = set s.frames i g })
  put_pool = set_keeps_pool s i g h.fits w

  put_here : (q : PageId) → q ≡ p → IsTrue (nth_device s.devices q.dev).honest
      → g.bytes ≡ stored s.devices q
  put_here q e o = h.fits.clean q (h.page ∙ ap Some (sym e)) h.clean o ∙ sym (stored_honest s.devices q o)

  put_bytes : (q : PageId) → IsTrue (nth_device s.devices q.dev).honest
      → bytes_of (set s.frames i g) s.devices q ≡ bytes_of s.frames s.devices q
  put_bytes q o = elim (where_is (set s.frames i g) q) [
    | inl new ↦ elim (cases_eq new.frame i) [
      | inl same ↦
          let at : g.page ≡ Some q = sym (ap (λ f. f.page) there_g) ∙ sym (ap (λ n. (nth_frame (set s.frames i g) n).page) same) ∙ new.holds in
          let is : q ≡ p = same_Some q p (sym at ∙ h.page) in
          new.bytes (stored s.devices q) ∙ ap (λ n. (nth_frame (set s.frames i g) n).bytes) same ∙ ap (λ f. f.bytes) there_g ∙ put_here q is o
          ∙ sym (bytes_nowhere s.frames q (stored s.devices q) (subst (IsNowhere s.frames) (sym is) h.nowhere))
      | inr ne ↦
          let before : (nth_frame s.frames new.frame).page ≡ Some q = sym (ap (λ f. f.page) (other_g new.frame ne)) ∙ new.holds in
          new.bytes (stored s.devices q) ∙ ap (λ f. f.bytes) (other_g new.frame ne) ∙ sym (bytes_held s new.frame q (stored s.devices q) w before)
    ]
    | inr new ↦ new.bytes (stored s.devices q) ∙ elim (where_is s.frames q) [
      | inl old ↦ elim (cases_eq old.frame i) [
        | inl same ↦
            let holds : (nth_frame s.frames i).page ≡ Some q = sym (ap (λ n. (nth_frame s.frames n).page) same) ∙ old.holds in
            sym (bytes_held s i q (stored s.devices q) w holds ∙ w.clean i q holds h.was_clean o ∙ sym (stored_honest s.devices q o))
        | inr ne ↦ absurd (new.nowhere old.frame (ap (λ f. f.page) (other_g old.frame ne) ∙ old.holds))
      ]
      | inr old ↦ sym (old.bytes (stored s.devices q))
    ]
  ]

  put_resident : (q : PageId) (j k : ℕ) → (nth_frame s.frames j).page ≡ Some q
      → (nth_frame (set s.frames i g) k).page ≡ Some q
      → bytes_of (set s.frames i g) s.devices q ≡ bytes_of s.frames s.devices q
  put_resident q j k before after = elim (cases_eq k i) [
    | inl same ↦
        let at : g.page ≡ Some q = sym (ap (λ f. f.page) there_g) ∙ sym (ap (λ n. (nth_frame (set s.frames i g) n).page) same) ∙ after in
        absurd (h.nowhere j (before ∙ sym at ∙ h.page))
    | inr ne ↦
        let was : (nth_frame s.frames k).page ≡ Some q = sym (ap (λ f. f.page) (other_g k ne)) ∙ after in
        bytes_held (record s { frames = set s.frames i g }) k q (stored s.devices q) put_pool after ∙ ap (λ f. f.bytes) (other_g k ne)
        ∙ sym (bytes_held s k q (stored s.devices q) w was)
  ]

  pub put_keeps : KeepsContents (view_of s) (view_of (record s { frames = set s.frames i g }))
  put_keeps = record {
    honest = λ q has o.
        let d : q.dev < length s.devices = subst (λ n. q.dev < n) (length-map s.devices device_view) has.device in
        let n : q.no < (nth_device s.devices q.dev).pages = subst (λ x. q.no < x.pages) (device_seen s q.dev) has.number in
        let honest : IsTrue (nth_device s.devices q.dev).honest = subst (λ x. IsTrue x.honest) (device_seen s q.dev) o in
        contents_seen (record s { frames = set s.frames i g }) q d n ∙ put_bytes q honest ∙ sym (contents_seen s q d n);
    resident = λ q old new.
        let before : (nth_frame s.frames old.frame).page ≡ Some q = sym (ap (λ f. f.page) (frame_seen s old.frame)) ∙ old.holds in
        let after : (nth_frame (set s.frames i g) new.frame).page ≡ Some q = sym (ap (λ f. f.page) (frame_seen (record s { frames = set s.frames i g }) new.frame)) ∙ new.holds in
        let d : q.dev < length s.devices = w.has_device old.frame q before in
        let n : q.no < (nth_device s.devices q.dev).pages = w.has_page old.frame q before in
        contents_seen (record s { frames = set s.frames i g }) q d n ∙ put_resident q old.frame new.frame before after ∙ sym (contents_seen s q d n);
    absent = λ q lies away.
        contents_absent (record s { frames = set s.frames i g }) q (sym (ap (λ x. x.honest) (device_seen (record s { frames = set s.frames i g }) q.dev)) ∙ lies)
        (nowhere_seen (record s { frames = set s.frames i g }) q away);
    sized = λ q is. held_size (record s { frames = set s.frames i g }) put_pool q is;
  }

-- Frames whose pages go to their devices one after the other.
use Rattle.std.proofs.Common.{◌≡◌, ℕ, zero, suc, ◌+◌, ◌<◌, ◌≤◌, cond, Bool, true, false, IsTrue, List, [], ◌∷◌, length, set, refl, sym, ap, ◌∙◌, subst, arith}
use Rattle.warm_devices.specs.Device.{DeviceState}
use Rattle.warm_frame_table.specs.declared.selection.Devices.{Devices}
use Rattle.warm_frame_table.specs.Frames.{FrameState, nth_frame}
use Rattle.warm_frame_table.specs.FrameSteps.{cleaned}
use Rattle.warm_frame_table.specs.Selection.{AreClean, selects}
use Rattle.warm_pool.specs.State.{PoolState}
use Rattle.warm_pool.specs.View.{view_of}
use Rattle.warm_pool.specs.Unchanged.{FailsAt}
use Rattle.warm_pool.specs.WritingBack.{KeptDevices, WritesBack, StopsAt, clean_if, cleaned_selected}
use Rattle.warm_pool.specs.steps.WritingBack.{CleanFails}

-- one frame more
pub clean_more : (which : Devices) (n : ℕ) (frames : List FrameState) → n < length frames
    → set (cleaned_selected which n frames) n
    (clean_if which (nth_frame (cleaned_selected which n frames) n))
    ≡ cleaned_selected which (suc n) frames
clean_more which n [] lt = absurd (omega arith)
clean_more which zero (f ∷ frames) lt = refl
clean_more which (suc n) (f ∷ frames) lt = ap (λ rest. clean_if which f ∷ rest) (clean_more which n frames (omega arith))

-- what holds of the old frame, and of the clean one, holds of a frame that may have been cleaned
pub clean_each : (P : FrameState → Type 0) (which : Devices) (n : ℕ) (frames : List FrameState)
    (i : ℕ) → P (nth_frame frames i) → P (cleaned (nth_frame frames i))
    → P (nth_frame (cleaned_selected which n frames) i)
clean_each P which zero frames i was is = was
clean_each P which (suc n) [] i was is = was
clean_each P which (suc n) (f ∷ frames) zero was is = elim (selects which f.page) as (λ t. P (cond t (cleaned f) f)) [ true ↦ is | false ↦ was ]
clean_each P which (suc n) (f ∷ frames) (suc i) was is = clean_each P which n frames i was is

-- it has the page that it had
pub nth_page : (which : Devices) (n : ℕ) (frames : List FrameState) (i : ℕ)
    → (nth_frame (cleaned_selected which n frames) i).page ≡ (nth_frame frames i).page
nth_page which n frames i = clean_each (λ f. f.page ≡ (nth_frame frames i).page) which n frames i refl refl

-- those not yet reached are unchanged
pub nth_rest : (which : Devices) (n : ℕ) (frames : List FrameState) (i : ℕ) → n ≤ i
    → nth_frame (cleaned_selected which n frames) i ≡ nth_frame frames i
nth_rest which zero frames i le = refl
nth_rest which (suc n) [] i le = refl
nth_rest which (suc n) (f ∷ frames) zero le = absurd (omega arith)
nth_rest which (suc n) (f ∷ frames) (suc i) le = nth_rest which n frames i (omega arith)

-- once all frames were reached, the selected ones are clean
nth_clean : (which : Devices) (frames : List FrameState) (i : ℕ)
    → IsTrue (selects which (nth_frame frames i).page)
    → (nth_frame (cleaned_selected which (length frames) frames) i).dirty ≡ false
nth_clean which [] i is = refl
nth_clean which (f ∷ frames) zero is = ap (λ t. (cond t (cleaned f) f).dirty) is
nth_clean which (f ∷ frames) (suc i) is = nth_clean which frames i is

pub clean_to : (which : Devices) (old new : List FrameState)
    → new ≡ cleaned_selected which (length old) old → AreClean which new
clean_to which old new becomes i selected =
    let page : (nth_frame new i).page ≡ (nth_frame old i).page = ap (λ frames. (nth_frame frames i).page) becomes ∙ nth_page which (length old) old i in
    ap (λ frames. (nth_frame frames i).dirty) becomes ∙ nth_clean which old i (subst (λ held. IsTrue (selects which held)) page selected)

-- a frame that is not selected is unchanged
pub nth_other : (which : Devices) (n : ℕ) (frames : List FrameState) (i : ℕ)
    → selects which (nth_frame frames i).page ≡ false
    → nth_frame (cleaned_selected which n frames) i ≡ nth_frame frames i
nth_other which zero frames i not = refl
nth_other which (suc n) [] i not = refl
nth_other which (suc n) (f ∷ frames) zero not = ap (λ (t : Bool). cond t (cleaned f) f) not
nth_other which (suc n) (f ∷ frames) (suc i) not = nth_other which n frames i not

-- two steps, the second over frames with the same pages, that are clean if they were
pub kept_both : (frames later : List FrameState) (a b c : List DeviceState)
    → ((i : ℕ) → (nth_frame later i).page ≡ (nth_frame frames i).page)
    → ((i : ℕ) → (nth_frame frames i).dirty ≡ false → (nth_frame later i).dirty ≡ false)
    → KeptDevices frames a b → KeptDevices later b c → KeptDevices frames a c
kept_both frames later a b c pages clean ab bc = record {
  count = bc.count ∙ ab.count;
  shape = λ k. let x = ab.shape k in let y = bc.shape k in record { pages = y.pages ∙ x.pages; page_size = y.page_size ∙ x.page_size; honest = y.honest ∙ x.honest; unfailing = y.unfailing ∙ x.unfailing };
  absent = λ p away. bc.absent p (λ i is. away i (sym (pages i) ∙ is)) ∙ ab.absent p away;
  clean = λ i p holds is. bc.clean i p (pages i ∙ holds) (clean i is) ∙ ab.clean i p holds is;
}

pub down_more : (which : Devices) (n : ℕ) (s t u : PoolState) → n < length s.frames
    → WritesBack (cleaned_selected which n s.frames) s t
    → WritesBack (set t.frames n (clean_if which (nth_frame t.frames n))) t u
    → WritesBack (cleaned_selected which (n + 1) s.frames) s u
down_more which n s t u lt first next = let one : suc n ≡ n + 1 = omega arith in record {
  becomes = next.becomes ∙ ap (λ frames. set frames n (clean_if which (nth_frame frames n))) first.becomes ∙ clean_more which n s.frames lt ∙ ap (λ m. cleaned_selected which m s.frames) one;
  devices = kept_both s.frames t.frames s.devices t.devices u.devices
      (λ i. ap (λ frames. (nth_frame frames i).page) first.becomes ∙ nth_page which n s.frames i)
      (λ i is. ap (λ frames. (nth_frame frames i).dirty) first.becomes ∙ clean_each (λ f. f.dirty ≡ false) which n s.frames i is refl)
      first.devices next.devices;
  failures = next.failures ∙ first.failures;
  same = (next.same.0 ∙ first.same.0, next.same.1 ∙ first.same.1);
}

-- a selected frame whose page was not written
pub one_stops : (which : Devices) (n : ℕ) (s t u : PoolState) → n < length s.frames
    → WritesBack (cleaned_selected which n s.frames) s t → view_of t ≡ view_of s
    → IsTrue (selects which (nth_frame t.frames n).page) → CleanFails t n u → StopsAt which s u
one_stops which n s t u lt down same selected fails =
    let here : nth_frame t.frames n ≡ nth_frame s.frames n = ap (λ frames. nth_frame frames n) down.becomes ∙ nth_rest which n s.frames n (omega arith) in
    record {
      frame = n;
      page = fails.page;
      there = lt;
      holds = ap (λ f. f.page) (sym here) ∙ fails.holds;
      selected = subst (λ page. IsTrue (selects which page)) fails.holds selected;
      dirty = ap (λ f. f.dirty) (sym here) ∙ fails.dirty;
      frames = fails.frames ∙ down.becomes;
      fails = subst (λ v. FailsAt v fails.page.dev (view_of u)) same fails.fails;
    }

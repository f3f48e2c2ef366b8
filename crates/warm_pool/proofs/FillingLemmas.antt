-- A page is put into a frame without being read, with the bytes that its device has.
use Rattle.std.proofs.Common.{◌≡◌, ℕ, zero, suc, ◌+◌, ◌<◌, true, false, IsTrue, List, [], ◌∷◌, length, map, set, Some, None, refl, sym, ◌∙◌, ap, subst}
use Rattle.std.proofs.lemmas.Option.{same_Some}
use Rattle.std.proofs.lemmas.List.{set-set, get_or-set_same, get_or-set_other}
use Rattle.warm_stamps.specs.declared.PageId.{PageId}
use Rattle.warm_rank.specs.declared.RankKey.{RankKey}
use Rattle.warm_devices.specs.Device.{DeviceState, GivesPage}
use Rattle.warm_frame_table.specs.Frames.{FrameState, FramesState, nth_frame, fresh_frame}
use Rattle.warm_frame_table.specs.FrameSteps.{cleaned, changed_at, loaded_frame}
use Rattle.warm_pool.specs.declared.slot.Slot.{Slot}
use Rattle.warm_pool.specs.State.{PoolState, IsPool, IsNowhere, nth_device}
use Rattle.warm_pool.specs.View.{stored, view_of, HasPage, PoolView}
use Rattle.warm_pool.specs.Unchanged.{KeepsBytes, KeepsContents, KeepsOthers}
use Rattle.warm_pool.specs.WritingBack.{WaitsFor}
use Rattle.warm_pool.specs.steps.WritingBack.{Cleans}
use Rattle.warm_pool.specs.Calls.{FlushesNone, ReadsNone}
use Rattle.warm_pool.specs.Filling.{AreFromDevice, TakesFilled}
use Rattle.warm_pool.specs.steps.Filling.{FillsInto}
use Rattle.warm_pool.proofs.PageByteLemmas.{bytes_nowhere, contents_seen, device_seen, frame_seen, absent_seen}
use Rattle.warm_pool.proofs.PoolLemmas.{pool_from, stored_honest}
use Rattle.warm_pool.proofs.FetchedPageLemmas.{spare_keeps}
use Rattle.warm_pool.proofs.LoadLemmas.{PutsPage, put_pool, put_keeps}
use Rattle.warm_pool.proofs.CallLemmas.{same_none, same_unread}
use Rattle.warm_pool.proofs.FrameChoiceLemmas.{has_device, has_number}
use Rattle.warm_pool.proofs.WriteBackLemmas.{cleans_view}
use Rattle.warm_pool.proofs.ZeroingLemmas.{nth_old, still_nowhere, zero_there, put_bytes}

-- what a caller sees as the bytes of the page is what its device has
pub given_stored : {s : PoolState} → IsPool s → (p : PageId) (bytes : List ℕ) → HasPage (view_of s) p
    → IsNowhere s.frames p → AreFromDevice (view_of s) p bytes
    → GivesPage (nth_device s.devices p.dev) p.no bytes
given_stored {s} w p bytes has away given o =
    given has (absent_seen s p away) (subst (λ d. IsTrue d.honest) (sym (device_seen s p.dev)) o)
    ∙ contents_seen s p (has_device w p has) (has_number w p has)
    ∙ bytes_nowhere s.frames p (stored s.devices p) away
    ∙ stored_honest s.devices p o

-- of a page whose device is not honest, any bytes may be given
none_honest : {B : Type 0} (shown : B → DeviceState) → ((d : B) → (shown d).honest ≡ false)
    → (all : List B) (k : ℕ) → (nth_device (map shown all) k).honest ≡ false
none_honest shown lies [] k = refl
none_honest shown lies (d ∷ all) zero = lies d
none_honest shown lies (d ∷ all) (suc k) = none_honest shown lies all k

pub given_unsure : {B : Type 0} (shown : B → DeviceState) → ((d : B) → (shown d).honest ≡ false)
    → (s : PoolState) (all : List B) → map shown all ≡ s.devices → (p : PageId) (bytes : List ℕ)
    → AreFromDevice (view_of s) p bytes
given_unsure shown lies s all are p bytes has away honest =
    let lie : (nth_device s.devices p.dev).honest ≡ false = subst (λ ds. (nth_device ds p.dev).honest ≡ false) are (none_honest shown lies all p.dev) in
    let no : false ≡ true = sym lie ∙ sym (ap (λ d. d.honest) (device_seen s p.dev)) ∙ honest in
    absurd (cc)

-- These bytes, after the page that was in the frame was written back

module _ {s : PoolState} (w : IsPool s) (i : ℕ) (there : i < length s.frames) (p : PageId)
    (device : p.dev < length s.devices) (number : p.no < (nth_device s.devices p.dev).pages)
    (nowhere : IsNowhere s.frames p) (key : RankKey) {m : ℕ} {es : List DeviceState}
    (fs : FramesState) (v : IsPool (pool_from fs m es)) (c : Cleans s i (pool_from fs m es))
    (bytes : List ℕ) (size : length bytes ≡ s.page_size)
    (given : GivesPage (nth_device s.devices p.dev) p.no bytes) where
  abbrev came : FrameState
  came = loaded_frame p key 1 bytes (nth_frame fs.frames i)

  was : nth_frame fs.frames i ≡ cleaned (nth_frame s.frames i)
  was = nth_old w i there p device number nowhere key fs v c

  away : IsNowhere fs.frames p
  away = still_nowhere w i there p device number nowhere key fs v c

  from_device : GivesPage (nth_device es p.dev) p.no bytes
  from_device o =
      let first : IsTrue (nth_device s.devices p.dev).honest = subst IsTrue (c.devices.shape p.dev).honest o in
      given first ∙ sym (stored_honest s.devices p first) ∙ sym (c.devices.absent p nowhere) ∙ stored_honest es p o

  puts : PutsPage (pool_from fs m es) i came p
  puts = record {
    fits = record {
      there = zero_there w i there p device number nowhere key fs v c;
      size = size ∙ sym c.same.0;
      has_device = λ q e. subst (λ r. r.dev < length es) (same_Some p q e) (subst (λ k. p.dev < k) (sym c.devices.count) device);
      has_page = λ q e. subst (λ r. r.no < (nth_device es r.dev).pages) (same_Some p q e)
          (subst (λ k. p.no < k) (sym (c.devices.shape p.dev).pages) number);
      once = λ j q ne e o. away j (o ∙ sym e);
      clean = λ q e _. subst (λ r. GivesPage (nth_device es r.dev) r.no bytes) (same_Some p q e) from_device;
      bare = λ e. let never : Some p ≡ None = e in absurd (cc);
    };
    page = refl;
    clean = refl;
    was_clean = ap (λ f. f.dirty) was;
    nowhere = away;
  }

  module _ (gs : FramesState) (k : ℕ) (is : gs ≡ changed_at fs i (loaded_frame p key 1 bytes)) where
    pub filled_pool : k ≡ fs.page_size → IsPool (pool_from gs k es)
    filled_pool e = subst (λ x. IsPool (pool_from x k es)) (sym is)
        (spare_keeps (pool_from (record fs { frames = set fs.frames i came }) m es) k e (put_pool (pool_from fs m es) i came p v puts))

    pub fills_into : FillsInto s i p key bytes (pool_from gs k es)
    fills_into = subst (λ x. FillsInto s i p key bytes (pool_from x k es)) (sym is) (record {
      loads = record {
        bytes = bytes;
        frames = ap (λ l. set l i came) c.frames ∙ set-set s.frames i (cleaned (nth_frame s.frames i)) came
            ∙ ap (λ f. set s.frames i (loaded_frame p key 1 bytes f)) was;
        devices = c.untouched;
        waits = c.waits;
        rest = ap (λ (x : PoolView). let y : PoolView = record x {
          frames = (view_of (pool_from (record fs { frames = set fs.frames i came }) k es)).frames;
          contents = (view_of (pool_from (record fs { frames = set fs.frames i came }) k es)).contents;
        } in y) (cleans_view s (pool_from fs m es) i c);
        contents = subst (λ x. KeepsContents x (view_of (pool_from (record fs { frames = set fs.frames i came }) k es))) (cleans_view s (pool_from fs m es) i c)
            (put_keeps (pool_from fs m es) i came p v puts);
      };
      filled = put_bytes (pool_from fs m es) i came p v puts.fits refl (ap (λ f. f.dirty) was) away;
    })

-- The effect of a pin, from its steps

pub filled_takes : (s t : PoolState) (i : ℕ) (p : PageId) (key : RankKey) (bytes : List ℕ)
    → FillsInto s i p key bytes t → i < length s.frames → IsNowhere s.frames p
    → ReadsNone s.devices t.devices → FlushesNone s.devices t.devices
    → (slot : Slot) → slot.index ≡ i → TakesFilled s p bytes slot t
filled_takes s t i p key bytes fills there away unread none slot at =
    let l = fills.loads in
    let came : FrameState = record { page = Some p; key = Some key; generation = (nth_frame s.frames i).generation + 1; fixes = 1; dirty = false; bytes = l.bytes } in record {
      others = λ j ne. ap (λ fs. nth_frame fs j) l.frames ∙ get_or-set_other s.frames i j came (fresh_frame []) (λ e. ne (e ∙ sym at));
      resident = λ r. absurd (absent_seen s p away r.frame r.holds);
      filled = λ _. fills.filled;
      clean = λ _. ap (λ k. (nth_frame t.frames k).dirty) at ∙ ap (λ fs. (nth_frame fs i).dirty) l.frames ∙ ap (λ f. f.dirty) (get_or-set_same s.frames i came (fresh_frame []) there);
      devices = λ _ clean. l.devices (sym (ap (λ k. (nth_frame s.frames k).dirty) at) ∙ clean);
      waits = λ _. subst (λ k. WaitsFor s k t.devices) (sym at) l.waits;
      unread = unread;
      unflushed = none;
    }

-- a resident page was given one more pin
pub stays_filled : (s t : PoolState) (i : ℕ) (p : PageId) (bytes : List ℕ) (slot : Slot)
    → (nth_frame s.frames i).page ≡ Some p → KeepsOthers slot.index s t → KeepsBytes s t
    → TakesFilled s p bytes slot t
stays_filled s t i p bytes slot holds others kept = record {
  others = others;
  resident = λ _. kept;
  filled = λ away. absurd (away i (ap (λ f. f.page) (frame_seen s i) ∙ holds));
  clean = λ away. absurd (away i (ap (λ f. f.page) (frame_seen s i) ∙ holds));
  devices = λ away. absurd (away i (ap (λ f. f.page) (frame_seen s i) ∙ holds));
  waits = λ away. absurd (away i (ap (λ f. f.page) (frame_seen s i) ∙ holds));
  unread = same_unread kept.devices;
  unflushed = same_none kept.devices;
}

-- A page is put into a frame without being read, with zeros.
use Rattle.std.proofs.Common.{◌≡◌, ◌≢◌, ℕ, ◌+◌, ◌-◌, ◌^◌, ◌<◌, true, false, IsTrue, List, [], length, map, set, replicate, Some, None, Result, IfErr, refl, sym, ◌∙◌, ap, subst, inl, inr, arith}
use Rattle.std.specs.Option.{option_map}
use Rattle.std.proofs.lemmas.Bool.{cases_eq}
use Rattle.std.proofs.lemmas.Option.{same_Some}
use Rattle.std.proofs.lemmas.List.{length-map, length-set, length-replicate, map-set, set-set, get_or-set_same, get_or-set_other}
use Rattle.warm_stamps.specs.declared.PageId.{PageId}
use Rattle.warm_history.specs.Histories.{HistoryView, hist, references_of}
use Rattle.warm_rank.specs.declared.RankKey.{RankKey}
use Rattle.warm_rank.specs.Keys.{rank_key}
use Rattle.warm_devices.specs.Device.{DeviceState}
use Rattle.warm_frame_table.specs.Frames.{FrameState, FramesState, nth_frame, fresh_frame}
use Rattle.warm_frame_table.specs.FrameSteps.{cleaned, changed_at, loaded_frame}
use Rattle.warm_frame_table.specs.Lending.{relent}
use Rattle.warm_frame_table.proofs.ListLemmas.{at_set}
use Rattle.warm_pool.specs.declared.slot.Slot.{Slot}
use Rattle.warm_pool.specs.declared.fault.PoolFault.{PoolFault}
use Rattle.warm_pool.specs.declared.fault.PoolFault.TheVariants.{ReadFault, WriteBack, FixesFull}
use Rattle.warm_pool.specs.State.{PoolState, IsPool, IsNowhere, RankedBy, nth_device}
use Rattle.warm_pool.specs.View.{stored, bytes_of, device_view, frame_view, view_of, contents_at, frame_at, HasPage, Holds, PoolView, FrameView}
use Rattle.warm_pool.specs.Unchanged.{KeepsOthers}
use Rattle.warm_pool.specs.WritingBack.{WaitsFor}
use Rattle.warm_pool.specs.steps.WritingBack.{Cleans}
use Rattle.warm_pool.specs.Calls.{FlushesNone}
use Rattle.warm_pool.specs.PageBytes.{Written}
use Rattle.warm_pool.specs.Pinning.{AddsFix, IsFrameToLoad, LoadRefused, PinRefused}
use Rattle.warm_pool.specs.steps.Pinning.{FetchFails, FixRefused, current_slot}
use Rattle.warm_pool.specs.Lending.{relent_pool}
use Rattle.warm_pool.specs.Laws.{IsWrittenWhole}
use Rattle.warm_pool.specs.Zeroing.{KeepsContentsBut, PutsZeros, TakesZeroed, ZeroedRefused, LeavesUnread}
use Rattle.warm_pool.specs.steps.Zeroing.{ZeroesInto, ZeroFails, FixesZeros, zeroed_frame}
use Rattle.warm_pool.proofs.PageByteLemmas.{where_is, bytes_held, contents_seen, device_seen, frame_seen, nowhere_seen, absent_seen}
use Rattle.warm_pool.proofs.PoolLemmas.{Fits, pool_from, set_keeps_pool, stored_honest, ranked_set}
use Rattle.warm_pool.proofs.LoadLemmas.{contents_absent, held_size}
use Rattle.warm_pool.proofs.PinLemmas.{placed_there}
use Rattle.warm_pool.proofs.UnchangedLemmas.{unwritten}
use Rattle.warm_pool.proofs.CallLemmas.{same_none}
use Rattle.warm_pool.proofs.WriteBackLemmas.{cleans_view}
use Rattle.warm_pool.proofs.FlushLemmas.{if_err}
use Rattle.warm_pool.proofs.LendingLemmas.{refilled_whole, lent_page}
use Rattle.warm_pool.proofs.FrameChoiceLemmas.{some_page}

-- Zeros in place of what was loaded

pub zeros_left : (all mid new : FramesState) (at : ℕ) (p : PageId) (key : RankKey)
    (bytes w : List ℕ) → at < length all.frames
    → mid ≡ changed_at all at (loaded_frame p key 1 bytes) → new ≡ changed_at mid at (relent w)
    → w ≡ replicate (length bytes) 0
    → new ≡ changed_at all at (zeroed_frame p key (length bytes))
zeros_left all mid new at p key bytes w there loaded left zeros =
    let came : FrameState = loaded_frame p key 1 bytes (nth_frame all.frames at) in
    left ∙ ap (λ m. changed_at m at (relent w)) loaded
    ∙ ap (λ (fs : List FrameState). let x : FramesState = record all { frames = fs } in x) (
    set-set all.frames at came (relent w (nth_frame (set all.frames at came) at))
    ∙ ap (λ f. set all.frames at (relent w f)) (get_or-set_same all.frames at came (fresh_frame []) there)
    ∙ ap (λ (bs : List ℕ). let f : FrameState = record came { dirty = true; bytes = bs } in set all.frames at f)
    (refilled_whole bytes w (ap length zeros ∙ length-replicate (length bytes) 0) ∙ zeros)
    )

pub loaded_there : (all mid : FramesState) (at : ℕ) (p : PageId) (key : RankKey) (bytes : List ℕ)
    → at < length all.frames → mid ≡ changed_at all at (loaded_frame p key 1 bytes)
    → at < length mid.frames
loaded_there all mid at p key bytes there loaded =
    subst (λ n. at < n) (sym (ap (λ s. length s.frames) loaded ∙ length-set all.frames at (loaded_frame p key 1 bytes (nth_frame all.frames at)))) there

pub loaded_bytes : (all mid : FramesState) (at : ℕ) (p : PageId) (key : RankKey) (bytes : List ℕ)
    → at < length all.frames → mid ≡ changed_at all at (loaded_frame p key 1 bytes)
    → (nth_frame mid.frames at).bytes ≡ bytes
loaded_bytes all mid at p key bytes there loaded =
    ap (λ s. (nth_frame s.frames at).bytes) loaded
    ∙ ap (λ f. f.bytes) (get_or-set_same all.frames at (loaded_frame p key 1 bytes (nth_frame all.frames at)) (fresh_frame []) there)

-- A page that is in no frame is put into one whose page is clean, with any bytes

module _ (t : PoolState) (i : ℕ) (g : FrameState) (p : PageId) (w : IsPool t) (fits : Fits t i g)
    (page : g.page ≡ Some p) (was_clean : (nth_frame t.frames i).dirty ≡ false)
    (nowhere : IsNowhere t.frames p) where
  abbrev u : PoolState
  u = record t { frames = set t.frames i g }

  here : nth_frame u.frames i ≡ g
  here = get_or-set_same t.frames i g (fresh_frame []) fits.there

  other : (j : ℕ) → j ≢ i → nth_frame u.frames j ≡ nth_frame t.frames j
  other j ne = get_or-set_other t.frames i j g (fresh_frame []) ne

  pub put_in : IsPool u
  put_in = set_keeps_pool t i g fits w

  is_it : (q : PageId) (k : ℕ) → k ≡ i → (nth_frame u.frames k).page ≡ Some q → q ≡ p
  is_it q k same holds =
      let at : g.page ≡ Some q = sym (ap (λ f. f.page) here) ∙ sym (ap (λ n. (nth_frame u.frames n).page) same) ∙ holds in
      same_Some q p (sym at ∙ page)

  same_bytes : (q : PageId) → q ≢ p → IsTrue (nth_device t.devices q.dev).honest
      → bytes_of u.frames t.devices q ≡ bytes_of t.frames t.devices q
  same_bytes q apart o = elim (where_is u.frames q) [
    | inl new ↦ elim (cases_eq new.frame i) [
      | inl same ↦ absurd (apart (is_it q new.frame same new.holds))
      | inr ne ↦
          let before : (nth_frame t.frames new.frame).page ≡ Some q = sym (ap (λ f. f.page) (other new.frame ne)) ∙ new.holds in
          new.bytes (stored t.devices q) ∙ ap (λ f. f.bytes) (other new.frame ne) ∙ sym (bytes_held t new.frame q (stored t.devices q) w before)
    ]
    | inr new ↦ new.bytes (stored t.devices q) ∙ elim (where_is t.frames q) [
      | inl old ↦ elim (cases_eq old.frame i) [
        | inl same ↦
            let holds : (nth_frame t.frames i).page ≡ Some q = sym (ap (λ n. (nth_frame t.frames n).page) same) ∙ old.holds in
            sym (bytes_held t i q (stored t.devices q) w holds ∙ w.clean i q holds was_clean o ∙ sym (stored_honest t.devices q o))
        | inr ne ↦ absurd (new.nowhere old.frame (ap (λ f. f.page) (other old.frame ne) ∙ old.holds))
      ]
      | inr old ↦ sym (old.bytes (stored t.devices q))
    ]
  ]

  stays_held : (q : PageId) → q ≢ p → (k : ℕ) → (nth_frame u.frames k).page ≡ Some q
      → bytes_of u.frames t.devices q ≡ bytes_of t.frames t.devices q
  stays_held q apart k after = elim (cases_eq k i) [
    | inl same ↦ absurd (apart (is_it q k same after))
    | inr ne ↦
        let was : (nth_frame t.frames k).page ≡ Some q = sym (ap (λ f. f.page) (other k ne)) ∙ after in
        bytes_held u k q (stored t.devices q) put_in after ∙ ap (λ f. f.bytes) (other k ne)
        ∙ sym (bytes_held t k q (stored t.devices q) w was)
  ]

  pub put_keeps_others : KeepsContentsBut p (view_of t) (view_of u)
  put_keeps_others = record {
    honest = λ q apart has o.
        let d : q.dev < length t.devices = subst (λ n. q.dev < n) (length-map t.devices device_view) has.device in
        let n : q.no < (nth_device t.devices q.dev).pages = subst (λ x. q.no < x.pages) (device_seen t q.dev) has.number in
        let honest : IsTrue (nth_device t.devices q.dev).honest = subst (λ x. IsTrue x.honest) (device_seen t q.dev) o in
        contents_seen u q d n ∙ same_bytes q apart honest ∙ sym (contents_seen t q d n);
    resident = λ q apart old new.
        let before : (nth_frame t.frames old.frame).page ≡ Some q = sym (ap (λ f. f.page) (frame_seen t old.frame)) ∙ old.holds in
        let after : (nth_frame u.frames new.frame).page ≡ Some q = sym (ap (λ f. f.page) (frame_seen u new.frame)) ∙ new.holds in
        let d : q.dev < length t.devices = w.has_device old.frame q before in
        let n : q.no < (nth_device t.devices q.dev).pages = w.has_page old.frame q before in
        contents_seen u q d n ∙ stays_held q apart new.frame after ∙ sym (contents_seen t q d n);
    absent = λ q lies away. contents_absent u q (sym (ap (λ x. x.honest) (device_seen u q.dev)) ∙ lies) (nowhere_seen u q away);
    sized = λ q is. held_size u put_in q is;
  }

  pub put_bytes : contents_at (view_of u) p ≡ g.bytes
  put_bytes =
      let holds : (nth_frame u.frames i).page ≡ Some p = ap (λ f. f.page) here ∙ page in
      contents_seen u p (put_in.has_device i p holds) (put_in.has_page i p holds) ∙ bytes_held u i p (stored t.devices p) put_in holds ∙ ap (λ f. f.bytes) here

-- Zeros, after the page that was in the frame was written back

module _ {s : PoolState} (w : IsPool s) (i : ℕ) (there : i < length s.frames) (p : PageId)
    (device : p.dev < length s.devices) (number : p.no < (nth_device s.devices p.dev).pages)
    (nowhere : IsNowhere s.frames p) (key : RankKey) {m : ℕ} {es : List DeviceState}
    (fs : FramesState) (v : IsPool (pool_from fs m es)) (c : Cleans s i (pool_from fs m es)) where
  pub nth_old : nth_frame fs.frames i ≡ cleaned (nth_frame s.frames i)
  nth_old = ap (λ l. nth_frame l i) c.frames ∙ get_or-set_same s.frames i (cleaned (nth_frame s.frames i)) (fresh_frame []) there

  pub zero_there : i < length fs.frames
  zero_there = subst (λ k. i < k) (sym (ap length c.frames ∙ length-set s.frames i (cleaned (nth_frame s.frames i)))) there

  pub zero_below : (k : ℕ) → (nth_frame s.frames i).generation < k
      → (nth_frame fs.frames i).generation < k
  zero_below k lt = subst (λ g. g < k) (sym (ap (λ f. f.generation) nth_old)) lt

  pub zero_size : length (nth_frame fs.frames i).bytes ≡ fs.page_size
  zero_size = v.frame_size i zero_there

  pub still_nowhere : IsNowhere fs.frames p
  still_nowhere = subst (λ l. IsNowhere l p) (sym c.frames)
      (at_set (fresh_frame []) (λ _ f. f.page ≢ Some p) s.frames i (cleaned (nth_frame s.frames i)) there (nowhere i) (λ j ne. nowhere j))

  module _ (size : ℕ) (size_is : size ≡ s.page_size) where
    abbrev g : FrameState
    g = zeroed_frame p key size (nth_frame fs.frames i)

    fits : Fits (pool_from fs m es) i g
    fits = record {
      there = zero_there;
      size = length-replicate size 0 ∙ size_is ∙ sym c.same.0;
      has_device = λ q e. subst (λ r. r.dev < length es) (same_Some p q e) (subst (λ k. p.dev < k) (sym c.devices.count) device);
      has_page = λ q e. subst (λ r. r.no < (nth_device es r.dev).pages) (same_Some p q e)
          (subst (λ k. p.no < k) (sym (c.devices.shape p.dev).pages) number);
      once = λ j q ne e o. still_nowhere j (o ∙ sym e);
      clean = λ q e z. let no : true ≡ false = z in absurd (cc);
      bare = λ e. let never : Some p ≡ None = e in absurd (cc);
    }

    was_clean : (nth_frame fs.frames i).dirty ≡ false
    was_clean = ap (λ f. f.dirty) nth_old

    module _ (gs : FramesState) (k : ℕ) (is : gs ≡ changed_at fs i (zeroed_frame p key size)) where
      pub zeroed_pool : k ≡ fs.page_size → IsPool (pool_from gs k es)
      zeroed_pool e = subst (λ x. IsPool (pool_from x k es)) (sym is)
          (subst (λ n. IsPool (record (pool_from (record fs { frames = set fs.frames i g }) m es) { spare = n })) (v.spare_size ∙ sym e)
          (put_in (pool_from fs m es) i g p v fits refl was_clean still_nowhere))

      pub zeroes_into : ZeroesInto s i p key (pool_from gs k es)
      zeroes_into = subst (λ x. ZeroesInto s i p key (pool_from x k es)) (sym is) (record {
        frames = ap (λ l. set l i g) c.frames ∙ set-set s.frames i (cleaned (nth_frame s.frames i)) g
            ∙ ap (λ f. set s.frames i (zeroed_frame p key size f)) nth_old
            ∙ ap (λ n. set s.frames i (zeroed_frame p key n (nth_frame s.frames i))) size_is;
        devices = c.untouched;
        waits = c.waits;
        rest = ap (λ (x : PoolView). let y : PoolView = record x {
          frames = (view_of (pool_from (record fs { frames = set fs.frames i g }) k es)).frames;
          contents = (view_of (pool_from (record fs { frames = set fs.frames i g }) k es)).contents;
        } in y) (cleans_view s (pool_from fs m es) i c);
        zeros = put_bytes (pool_from fs m es) i g p v fits refl was_clean still_nowhere ∙ ap (λ n. replicate n 0) size_is;
        others = subst (λ x. KeepsContentsBut p x (view_of (pool_from (record fs { frames = set fs.frames i g }) k es))) (cleans_view s (pool_from fs m es) i c)
            (put_keeps_others (pool_from fs m es) i g p v fits refl was_clean still_nowhere);
      })

-- The effect of a pin, from its steps

module _ (s t : PoolState) (i : ℕ) (p : PageId) (key : RankKey) (z : ZeroesInto s i p key t)
    (there : i < length s.frames) where
  abbrev came : FrameState
  came = zeroed_frame p key s.page_size (nth_frame s.frames i)

  pub zeroed_ranked : (h : HistoryView) → key ≡ rank_key p (hist (references_of h) p)
      → RankedBy s h → RankedBy t h
  zeroed_ranked h is r =
      subst (λ fs. (j : ℕ) → (nth_frame fs j).key ≡ option_map (λ q. rank_key q (hist (references_of h) q)) (nth_frame fs j).page) (sym z.frames)
      (ranked_set s i came h there (ap Some is) r)

  pub zeroed_slot : (slot : Slot) → slot ≡ current_slot t i → (gen : ℕ)
      → gen ≡ (nth_frame s.frames i).generation → slot ≡ record { index = i; generation = gen + 1 }
  zeroed_slot slot is gen was =
      is ∙ ap (λ (g : ℕ). let x : Slot = record { index = i; generation = g } in x)
      (ap (λ fs. (nth_frame fs i).generation) z.frames ∙ ap (λ f. f.generation) (get_or-set_same s.frames i came (fresh_frame []) there) ∙ ap (λ g. g + 1) (sym was))

  pub zeroed_puts : (h : HistoryView) → IsNowhere s.frames p → IsFrameToLoad h (view_of s) (Some i)
      → (gen : ℕ) → gen ≡ (nth_frame s.frames i).generation → gen < 2 ^ 64 - 1
      → PutsZeros h (view_of s) p (record { index = i; generation = gen + 1 }) (view_of t)
  zeroed_puts h away to_load gen is room = record {
    absent = absent_seen s p away;
    to_load = to_load;
    below = subst (λ f. f.generation < 2 ^ 64 - 1) (sym (frame_seen s i)) (subst (λ g. g < 2 ^ 64 - 1) is room);
    current = ap (λ g. g + 1) (is ∙ sym (ap (λ f. f.generation) (frame_seen s i)));
    becomes = z.rest ∙ ap (λ (fs : List FrameView). let x : PoolView = record (view_of s) { frames = fs; contents = (view_of t).contents } in x)
        (ap (map frame_view) z.frames ∙ map-set frame_view s.frames i came
        ∙ ap (λ (g : ℕ). let f : FrameView = record { page = Some p; generation = g + 1; fixes = 1 } in set (map frame_view s.frames) i f) (sym is));
    zeros = z.zeros;
    others = z.others;
  }

  pub zeroed_takes : IsNowhere s.frames p → FlushesNone s.devices t.devices → (slot : Slot)
      → slot.index ≡ i → TakesZeroed s p slot t
  zeroed_takes away none slot at = record {
    dirty = ap (λ k. (nth_frame t.frames k).dirty) at ∙ ap (λ fs. (nth_frame fs i).dirty) z.frames ∙ ap (λ f. f.dirty) (get_or-set_same s.frames i came (fresh_frame []) there);
    others = λ j ne. ap (λ fs. nth_frame fs j) z.frames ∙ get_or-set_other s.frames i j came (fresh_frame []) (λ e. ne (e ∙ sym at));
    resident = λ r. absurd (absent_seen s p away r.frame r.holds);
    devices = λ clean. z.devices (sym (ap (λ k. (nth_frame s.frames k).dirty) at) ∙ clean);
    waits = λ _. subst (λ k. WaitsFor s k t.devices) (sym at) z.waits;
    unflushed = none;
  }

pub zeroed_holds : (h : HistoryView) (old : PoolView) (p : PageId) (slot : Slot) (new : PoolView)
    → PutsZeros h old p slot new → Holds new slot
zeroed_holds h old p slot new x =
    let there : slot.index < length old.frames = placed_there h old slot.index x.to_load in
    let seen : frame_at new slot.index ≡ record { page = Some p; generation = slot.generation; fixes = 1 } =
    ap (λ v. frame_at v slot.index) x.becomes ∙ get_or-set_same old.frames slot.index (record { page = Some p; generation = slot.generation; fixes = 1 }) _ there in
    record {
      there = subst (λ m. slot.index < m) (sym (ap (λ v. length v.frames) x.becomes ∙ length-set old.frames slot.index (record { page = Some p; generation = slot.generation; fixes = 1 }))) there;
      current = sym (ap (λ f. f.generation) seen);
      fixed = subst (λ f. 0 < f.fixes) (sym seen) (omega arith);
    }

-- the write of the page that was in the frame failed
pub zero_failed : (s t : PoolState) (i : ℕ) (p : PageId) (why : PoolFault) → ZeroFails s i why t
    → FetchFails s s.devices i p why t
zero_failed s t i p why x = subst (λ y. FetchFails s s.devices i p y t) (sym x.0) x.1

pub zero_leaves : (h : HistoryView) (s t : PoolState) (i : ℕ) → IsFrameToLoad h (view_of s) (Some i)
    → FlushesNone s.devices t.devices → (why : PoolFault) → ZeroFails s i why t
    → LeavesUnread h s why t
zero_leaves h s t i to_load none why x = subst (λ y. LeavesUnread h s y t) (sym x.0) (unwritten h s s.devices t i to_load none x.1)

pub unknown_leaves_unread : (h : HistoryView) (s : PoolState) (p : PageId)
    → (HasPage (view_of s) p → ⊥) → (why : PoolFault)
    → LoadRefused h (view_of s) p why (view_of s) → LeavesUnread h s why s
unknown_leaves_unread h s p hasnt WriteBack refused = absurd (hasnt refused.0)
unknown_leaves_unread h s p hasnt why refused = refl

pub full_leaves_unread : (h : HistoryView) (s t : PoolState) (i : ℕ) {T : Type 0}
    (r : Result T PoolFault) → IfErr r (λ why. FixRefused s i why t)
    → IfErr r (λ why. LeavesUnread h s why t)
full_leaves_unread h s t i r x = if_err _ _ r x (λ why full. subst (λ y. LeavesUnread h s y t) (sym full.0) (ap (λ u. u.devices) full.2))

-- a refused pin reads no page
pub unknown_unread : (h : HistoryView) (s : PoolState) (p : PageId)
    → (HasPage (view_of s) p → ⊥) → (why : PoolFault)
    → PinRefused h (view_of s) p why (view_of s) → ZeroedRefused h (view_of s) p why (view_of s)
unknown_unread h s p hasnt why refused = (refused, λ is. hasnt (subst (λ y. PinRefused h (view_of s) p y (view_of s)) is refused).0)

pub full_unread : (s t : PoolState) (i : ℕ) {T : Type 0} (r : Result T PoolFault)
    → IfErr r (λ why. FixRefused s i why t) → IfErr r (λ why. why ≢ ReadFault)
full_unread s t i r x = if_err _ _ r x (λ why full is. let no : FixesFull ≡ ReadFault = sym full.0 ∙ is in absurd (cc))

pub zero_unread : (s t : PoolState) (i : ℕ) (why : PoolFault) → ZeroFails s i why t
    → why ≢ ReadFault
zero_unread s t i why x is = let no : WriteBack ≡ ReadFault = sym x.0 ∙ is in absurd (cc)

-- Zeros written to a page that was resident

pub fixed_takes : (s t : PoolState) (i : ℕ) (p : PageId) (slot : Slot)
    → (nth_frame s.frames i).page ≡ Some p → FixesZeros s i slot t → TakesZeroed s p slot t
fixed_takes s t i p slot holds z = record {
  dirty = z.dirty;
  others = z.others;
  resident = λ _. z.devices;
  devices = λ _. z.devices;
  waits = λ away. absurd (away i (ap (λ f. f.page) (frame_seen s i) ∙ holds));
  unflushed = same_none z.devices;
}

pub written_holds : (old new : PoolView) (slot : Slot) (at : ℕ) (put : List ℕ)
    → Written old slot at put new → Holds old slot → Holds new slot
written_holds old new slot at put w h =
    subst (λ v. Holds v slot) (sym w.becomes) (record { there = h.there; current = h.current; fixed = h.fixed })

pub zeros_whole : (mid : PoolState) (slot : Slot) (w : List ℕ) → IsPool mid
    → Holds (view_of mid) slot → w ≡ replicate mid.page_size 0
    → IsWrittenWhole mid slot w (relent_pool mid slot.index w)
zeros_whole mid slot w pool holds zeros =
    lent_page mid slot w pool holds (ap length zeros ∙ length-replicate mid.page_size 0)

pub zeros_fixed : (s mid t : PoolState) (i : ℕ) (slot : Slot) (w : List ℕ)
    → (nth_frame s.frames i).page ≢ None → IsWrittenWhole mid slot w t
    → ((p : PageId) → (nth_frame s.frames i).page ≡ Some p
    → AddsFix (view_of s) p slot (view_of mid))
    → KeepsOthers slot.index s mid → mid.devices ≡ s.devices → w ≡ replicate mid.page_size 0
    → FixesZeros s i slot t
zeros_fixed s mid t i slot w held whole adds others devices zeros =
    let page = some_page (nth_frame s.frames i).page held in
    let size : mid.page_size ≡ s.page_size = ap (λ v. v.page_size) (adds page.0 page.1).becomes in
    record {
      zeroed = λ p holds. record {
        between = view_of mid;
        adds = adds p holds;
        written = subst (λ x. Written (view_of mid) slot 0 x (view_of t)) (zeros ∙ ap (λ n. replicate n 0) size) whole.written;
      };
      dirty = whole.dirty.dirty;
      others = λ j ne. whole.dirty.others j ne ∙ others j ne;
      devices = whole.dirty.devices ∙ devices;
    }

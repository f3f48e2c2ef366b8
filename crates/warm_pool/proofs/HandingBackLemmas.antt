-- What a device has once its pages were written back and it was flushed.
use Rattle.std.proofs.Common.{◌≡◌, ℕ, ◌<◌, false, IsTrue, List, length, set, get_or, Some, refl, sym, ap, ◌∙◌, subst, inl, inr, get_or-set_same}
use Rattle.std.proofs.lemmas.Bool.{eq-eqb, cases_lt}
use Rattle.std.proofs.lemmas.List.{get_or_past}
use Rattle.warm_stamps.specs.declared.PageId.{PageId}
use Rattle.warm_devices.specs.Device.{DeviceState, SameShape, page_at}
use Rattle.warm_frame_table.specs.declared.selection.Devices.{Devices}
use Rattle.warm_frame_table.specs.declared.selection.Devices.TheVariants.{All, One}
use Rattle.warm_frame_table.specs.Frames.{nth_frame}
use Rattle.warm_frame_table.specs.Selection.{is_on, AreClean}
use Rattle.warm_pool.specs.State.{PoolState, IsPool, nth_device, no_device}
use Rattle.warm_pool.specs.View.{stored, bytes_of, contents_at}
use Rattle.warm_pool.specs.steps.WritingBack.{WritesBackAll}
use Rattle.warm_pool.specs.WritingSome.{StopsAtFlush}
use Rattle.warm_pool.specs.steps.Flushes.{FlushFails, NoneWaits}
use Rattle.warm_pool.specs.HandingBack.{HandsBack, HandsBackOne}
use Rattle.warm_pool.proofs.PageByteLemmas.{where_is, contents_seen}
use Rattle.warm_pool.proofs.PoolLemmas.{stored_honest}
use Rattle.warm_pool.proofs.FlushLemmas.{same_shape}
use Rattle.warm_pool.proofs.SettleLemmas.{all_clean, count_at, down_view}
use Rattle.warm_pool.proofs.RetireLemmas.{down_there, flush_one_fails}

-- A device none of whose pages is dirty

module _ (t : PoolState) (dev : ℕ) (w : IsPool t) (clean : AreClean (One dev) t.frames) where
  clean_at : (i n : ℕ) → (nth_frame t.frames i).page ≡ Some (record { dev = dev; no = n })
      → (nth_frame t.frames i).dirty ≡ false
  clean_at i n holds = clean i (ap (is_on dev) holds ∙ eq-eqb dev dev refl)

  -- an honest device has of a page what the pool has
  on_device : (n : ℕ) → IsTrue (nth_device t.devices dev).honest
      → bytes_of t.frames t.devices (record { dev = dev; no = n })
      ≡ page_at (nth_device t.devices dev).contents n
  on_device n honest =
      let p : PageId = record { dev = dev; no = n } in
      elim (where_is t.frames p) [
        | inl h ↦ h.bytes (stored t.devices p) ∙ w.clean h.frame p h.holds (clean_at h.frame n h.holds) honest
        | inr h ↦ h.bytes (stored t.devices p) ∙ stored_honest t.devices p honest
      ]

  pub handed_here : dev < length t.devices → (nth_device t.devices dev).waiting ≡ false
      → HandsBackOne t dev (nth_device t.devices dev)
  handed_here there quiet = record {
    flushed = quiet;
    shape = same_shape (nth_device t.devices dev);
    failures = refl;
    contents = λ honest n low. sym (on_device n honest) ∙ sym (contents_seen t (record { dev = dev; no = n }) there low);
  }

-- Pages that were written back before

pub handed_down : (which : Devices) (s t : PoolState) (dev : ℕ) (device : DeviceState)
    → WritesBackAll which s t → HandsBackOne t dev device → HandsBackOne s dev device
handed_down which s t dev device down handed =
    let before : SameShape (nth_device s.devices dev) (nth_device t.devices dev) = down.devices.shape dev in
    let after = handed.shape in
    record {
      flushed = handed.flushed;
      shape = record { pages = after.pages ∙ before.pages; page_size = after.page_size ∙ before.page_size; honest = after.honest ∙ before.honest; unfailing = after.unfailing ∙ before.unfailing };
      failures = handed.failures ∙ sym (count_at t.devices dev) ∙ ap (λ all. get_or all dev 0) down.failures ∙ count_at s.devices dev;
      contents = λ honest n low. handed.contents honest n low ∙ ap (λ v. contents_at v (record { dev = dev; no = n })) (down_view which (length s.frames) s t down);
    }

-- all devices
pub hands_back : (s t : PoolState) (devices : List DeviceState) → WritesBackAll All s t
    → NoneWaits t.devices → IsPool t → devices ≡ t.devices → HandsBack s devices
hands_back s t devices down none w is = subst (λ ds. HandsBack s ds) (sym is) (record {
  count = down.devices.count;
  each = λ k low.
      let clean : AreClean (One k) t.frames = λ i on. ap (λ frames. (nth_frame frames i).dirty) down.becomes ∙ all_clean s.frames i in
      handed_down All s t k (nth_device t.devices k) down (handed_here t k w clean (down_there down low) (none k));
})

-- none of them is unflushed
pub none_waits : (s : PoolState) (devices : List DeviceState) → HandsBack s devices
    → NoneWaits devices
none_waits s devices back k = elim (cases_lt k (length devices)) [
  | inl lt ↦ (back.each k (subst (λ n. k < n) back.count lt)).flushed
  | inr ge ↦ ap (λ d. d.waiting) (get_or_past devices k no_device ge)
]

-- A flush that failed, after the pages of its device were written back

pub stops_at_flush : (dev : ℕ) (s t u : PoolState) (after : DeviceState)
    → WritesBackAll (One dev) s t → dev < length s.devices → u.frames ≡ t.frames
    → (u.page_size ≡ t.page_size) × (u.spare ≡ t.spare) → u.devices ≡ set t.devices dev after
    → FlushFails (nth_device t.devices dev) after → StopsAtFlush dev s u
stops_at_flush dev s t u after down there frames same is fails = record {
  frames = frames ∙ down.becomes;
  waits = ap (λ ds. (nth_device ds dev).waiting) is ∙ ap (λ d. d.waiting) (get_or-set_same t.devices dev after no_device (down_there down there)) ∙ fails.waiting;
  fails = flush_one_fails (One dev) (length s.frames) s t u dev after down there frames same is fails;
}

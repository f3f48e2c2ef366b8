-- A page that was read is loaded into a frame whose page was written back.
use Rattle.std.proofs.Common.{◌≡◌, ◌≢◌, ℕ, ◌+◌, ◌<◌, false, IsTrue, List, [], length, set, Some, None, Result, Ok, refl, sym, ◌∙◌, ap, subst}
use Rattle.std.proofs.lemmas.Option.{same_Some}
use Rattle.std.proofs.lemmas.List.{length-set, set-set, get_or-set_same}
use Rattle.warm_stamps.specs.declared.PageId.{PageId}
use Rattle.warm_rank.specs.declared.RankKey.{RankKey}
use Rattle.warm_devices.specs.Device.{DeviceState, CountsFault, page_at}
use Rattle.warm_devices.specs.declared.fault.DeviceFault.{DeviceFault}
use Rattle.warm_devices.specs.declared.fault.DeviceFault.TheVariants.{Read}
use Rattle.warm_frame_table.specs.Frames.{FrameState, FramesState, nth_frame, fresh_frame}
use Rattle.warm_frame_table.specs.FrameSteps.{cleaned}
use Rattle.warm_frame_table.proofs.ListLemmas.{at_set}
use Rattle.warm_pool.specs.State.{PoolState, IsPool, IsNowhere, nth_device}
use Rattle.warm_pool.specs.View.{view_of, PoolView}
use Rattle.warm_pool.specs.Unchanged.{FailsAt, KeepsContents}
use Rattle.warm_pool.specs.WritingBack.{KeptDevices}
use Rattle.warm_pool.specs.steps.WritingBack.{Cleans, CleanFails, WriteFails}
use Rattle.warm_pool.specs.steps.Pinning.{LoadsInto, ReadFails}
use Rattle.warm_pool.specs.Calls.{FlushesNone}
use Rattle.warm_pool.specs.DeviceCalls.{PageRead, read_at}
use Rattle.warm_pool.proofs.PoolLemmas.{pool_from, stored_honest, devices_keep_pool}
use Rattle.warm_pool.proofs.FlushLemmas.{may_fail}
use Rattle.warm_pool.proofs.DeviceCallLemmas.{read_keeps, read_once, read_counted, fails_at, same_view}
use Rattle.warm_pool.proofs.CallLemmas.{read_none}
use Rattle.warm_pool.proofs.LoadLemmas.{Failed, on_ok, PutsPage, put_pool, put_keeps}
use Rattle.warm_pool.proofs.WriteBackLemmas.{cleans_view}

-- page p, which is in no frame, was read into bytes, to come into frame i
pub record Fetched (s : PoolState) (ds : List DeviceState) (i : ℕ) (p : PageId) (bytes : List ℕ)
    (result : Result (Unit {0}) DeviceFault) : Type 0 where
  pub pool : IsPool s
  pub there : i < length s.frames
  pub size : length bytes ≡ s.page_size
  pub device : p.dev < length s.devices
  pub number : p.no < (nth_device s.devices p.dev).pages
  pub nowhere : IsNowhere s.frames p
  pub call : PageRead s.devices ds p.dev p.no bytes result

-- the same, of a pool that is seen as v
pub fetched_in : {s v : PoolState} {ds : List DeviceState} {p : PageId} {bytes : List ℕ}
    {result : Result (Unit {0}) DeviceFault} (i : ℕ) → s ≡ v → IsPool s
    → i < length v.frames → length bytes ≡ s.spare → p.dev < length v.devices
    → p.no < (nth_device v.devices p.dev).pages → IsNowhere v.frames p
    → PageRead s.devices ds p.dev p.no bytes result → Fetched s ds i p bytes result
fetched_in {p = p} i seen w there len device number nowhere call = record {
  pool = w;
  there = subst (λ x. i < length x.frames) (sym seen) there;
  size = len ∙ w.spare_size;
  device = subst (λ x. p.dev < length x.devices) (sym seen) device;
  number = subst (λ x. p.no < (nth_device x.devices p.dev).pages) (sym seen) number;
  nowhere = subst (λ x. IsNowhere x.frames p) (sym seen) nowhere;
  call = call;
}

-- the buffers change places
pub spare_keeps : (s : PoolState) (n : ℕ) → n ≡ s.page_size → IsPool s
    → IsPool (record s { spare = n })
spare_keeps s n e w = subst (λ m. IsPool (record s { spare = m })) (w.spare_size ∙ sym e) w

-- the frame after the page was loaded into it
abbrev pub arrival : List FrameState → ℕ → PageId → RankKey → ℕ → List ℕ → FrameState
arrival frames i p key fixes bytes = record { page = Some p; key = Some key; generation = (nth_frame frames i).generation + 1; fixes = fixes; dirty = false; bytes = bytes }

module _ {s : PoolState} {ds : List DeviceState} {i : ℕ} {p : PageId} {bytes : List ℕ}
    {result : Result (Unit {0}) DeviceFault} (h : Fetched s ds i p bytes result) where
  kept : KeptDevices s.frames s.devices ds
  kept = read_keeps s.frames s.devices ds p.dev p.no bytes result h.device h.call

  pub fetched_none : FlushesNone s.devices ds
  fetched_none = read_none s.devices ds p.dev p.no bytes result h.device h.call

  pub fetched_pool : (n : ℕ) → n ≡ s.spare → IsPool (record s { spare = n; devices = ds })
  fetched_pool n e = spare_keeps (record s { devices = ds }) n (e ∙ h.pool.spare_size) (devices_keep_pool s ds kept h.pool)

  pub fetch_failed : Failed result → ReadFails s p (record s { devices = ds })
  fetch_failed f = record {
    frames = refl;
    devices = read_counted s.devices ds p.dev p.no bytes result f.fault h.call f.is;
    fails = fails_at s ds p.dev h.call.after h.device h.call.becomes kept
        (may_fail (nth_device s.devices p.dev).unfailing f.fault result f.is h.call.call.unfailing)
        (subst (λ r. CountsFault Read r (nth_device s.devices p.dev) h.call.after) f.is h.call.call.faults).1;
  }

  module _ (ok : result ≡ Ok tt) where
    fetched_view : view_of (record s { devices = ds }) ≡ view_of s
    fetched_view = same_view s ds p.dev h.call.after h.call.becomes kept (subst (λ r. CountsFault Read r (nth_device s.devices p.dev) h.call.after) ok h.call.call.faults)

    -- the page that was to leave was not written
    pub leave_failed : {n : ℕ} (t : PoolState)
        → CleanFails (record s { spare = n; devices = ds }) i t
        → WriteFails s (read_at p.dev s.devices) i t
    leave_failed t c = record {
      page = c.page;
      holds = c.holds;
      dirty = c.dirty;
      frames = c.frames;
      waits = c.waits;
      others = λ k ne. c.others k ne ∙ ap (λ l. nth_device l k) (read_once s.devices ds p.dev p.no bytes result h.call ok);
      fails = subst (λ v. FailsAt v c.page.dev (view_of t)) fetched_view c.fails;
    }

    module _ {n m : ℕ} {es : List DeviceState} (fs : FramesState) (w : IsPool (pool_from fs m es))
        (c : Cleans (record s { spare = n; devices = ds }) i (pool_from fs m es)) where
      old_view : view_of (pool_from fs m es) ≡ view_of s
      old_view = cleans_view (record s { spare = n; devices = ds }) (pool_from fs m es) i c ∙ fetched_view

      nth_old : nth_frame fs.frames i ≡ cleaned (nth_frame s.frames i)
      nth_old = ap (λ l. nth_frame l i) c.frames ∙ get_or-set_same s.frames i (cleaned (nth_frame s.frames i)) (fresh_frame []) h.there

      pub still_there : i < length fs.frames
      still_there = subst (λ k. i < k) (sym (ap length c.frames ∙ length-set s.frames i (cleaned (nth_frame s.frames i)))) h.there

      pub still_below : (k : ℕ) → (nth_frame s.frames i).generation < k
          → (nth_frame fs.frames i).generation < k
      still_below k lt = subst (λ g. g < k) (sym (ap (λ f. f.generation) nth_old)) lt

      pub still_size : length (nth_frame fs.frames i).bytes ≡ fs.page_size
      still_size = w.frame_size i still_there

      still_nowhere : IsNowhere fs.frames p
      still_nowhere = subst (λ l. IsNowhere l p) (sym c.frames)
          (at_set (fresh_frame []) (λ _ f. f.page ≢ Some p) s.frames i (cleaned (nth_frame s.frames i)) h.there (h.nowhere i) (λ j ne. h.nowhere j))

      from_device : IsTrue (nth_device es p.dev).honest
          → bytes ≡ page_at (nth_device es p.dev).contents p.no
      from_device o =
          let mid : IsTrue (nth_device ds p.dev).honest = subst IsTrue (c.devices.shape p.dev).honest o in
          let first : IsTrue (nth_device s.devices p.dev).honest = subst IsTrue (kept.shape p.dev).honest mid in
          on_ok result ok h.call.call.read first ∙ sym (stored_honest s.devices p first) ∙ sym (kept.absent p h.nowhere) ∙ sym (c.devices.absent p h.nowhere)
          ∙ stored_honest es p o

      module _ (key : RankKey) (fixes : ℕ) (b : List ℕ) (b_is : b ≡ bytes) where
        puts : PutsPage (pool_from fs m es) i (arrival fs.frames i p key fixes b) p
        puts = record {
          fits = record {
            there = still_there;
            size = ap length b_is ∙ h.size ∙ sym c.same.0;
            has_device = λ q e. subst (λ r. r.dev < length es) (same_Some p q e) (subst (λ k. p.dev < k) (sym (c.devices.count ∙ kept.count)) h.device);
            has_page = λ q e. subst (λ r. r.no < (nth_device es r.dev).pages) (same_Some p q e)
                (subst (λ k. p.no < k) (sym ((c.devices.shape p.dev).pages ∙ (kept.shape p.dev).pages)) h.number);
            once = λ j q ne e o. still_nowhere j (o ∙ sym e);
            clean = λ q e _. subst (λ r. IsTrue (nth_device es r.dev).honest → b ≡ page_at (nth_device es r.dev).contents r.no) (same_Some p q e) (λ o. b_is ∙ from_device o);
            bare = λ e. let never : Some p ≡ None = e in absurd (cc);
          };
          page = refl;
          clean = refl;
          was_clean = ap (λ f. f.dirty) nth_old;
          nowhere = still_nowhere;
        }

        module _ (gs : FramesState) (k : ℕ)
            (is : gs ≡ record fs {
              frames = set fs.frames i (arrival fs.frames i p key fixes b);
            }) where
          pub arrived_pool : k ≡ fs.page_size → IsPool (pool_from gs k es)
          arrived_pool e = subst (λ x. IsPool (pool_from x k es)) (sym is)
              (spare_keeps (pool_from (record fs { frames = set fs.frames i (arrival fs.frames i p key fixes b) }) m es) k e (put_pool (pool_from fs m es) i (arrival fs.frames i p key fixes b) p w puts))

          pub loads_into : LoadsInto s (read_at p.dev s.devices) i p key fixes (pool_from gs k es)
          loads_into = subst (λ x. LoadsInto s (read_at p.dev s.devices) i p key fixes (pool_from x k es)) (sym is) (record {
            bytes = b;
            frames = ap (λ l. set l i (arrival fs.frames i p key fixes b)) c.frames
                ∙ set-set s.frames i (cleaned (nth_frame s.frames i)) (arrival fs.frames i p key fixes b)
                ∙ ap (λ (f : FrameState). let r : FrameState = record { page = Some p; key = Some key; generation = f.generation + 1; fixes = fixes; dirty = false; bytes = b } in set s.frames i r) nth_old;
            devices = λ clean. c.untouched clean ∙ read_once s.devices ds p.dev p.no bytes result h.call ok;
            waits = c.waits;
            rest = ap (λ (v : PoolView). let x : PoolView = record v {
              frames = (view_of (pool_from (record fs { frames = set fs.frames i (arrival fs.frames i p key fixes b) }) k es)).frames;
              contents = (view_of (pool_from (record fs { frames = set fs.frames i (arrival fs.frames i p key fixes b) }) k es)).contents;
            } in x) old_view;
            contents = subst (λ v. KeepsContents v (view_of (pool_from (record fs { frames = set fs.frames i (arrival fs.frames i p key fixes b) }) k es))) old_view
                (put_keeps (pool_from fs m es) i (arrival fs.frames i p key fixes b) p w puts);
          })

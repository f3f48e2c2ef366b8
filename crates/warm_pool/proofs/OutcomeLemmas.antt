-- What calls leave when they are refused, from their steps; and what holds after a call in either
-- case.
use Rattle.std.proofs.Common.{◌≡◌, ◌≢◌, ℕ, ◌<◌, ◌-◌, ◌^◌, length, Some, Result, Ok, Err, IfOk, IfErr, refl, ap}
use Rattle.warm_stamps.specs.declared.PageId.{PageId}
use Rattle.warm_history.specs.Histories.{HistoryView}
use Rattle.warm_frame_table.specs.Frames.{nth_frame}
use Rattle.warm_pool.specs.declared.fault.PoolFault.{PoolFault}
use Rattle.warm_pool.specs.declared.fault.PoolFault.TheVariants.{ReadFault}
use Rattle.warm_pool.specs.State.{PoolState, IsNowhere}
use Rattle.warm_pool.specs.View.{view_of, HasPage}
use Rattle.warm_pool.specs.Calls.{FlushesNone, ReadsNone}
use Rattle.warm_pool.specs.DeviceCalls.{read_at}
use Rattle.warm_pool.specs.Pinning.{IsFrameToLoad, LeavesDevices, LoadRefused, PinRefused, PutRefused}
use Rattle.warm_pool.specs.Zeroing.{LeavesUnread}
use Rattle.warm_pool.specs.steps.Pinning.{FetchFails, FixRefused}
use Rattle.warm_pool.specs.steps.Zeroing.{ZeroFails}
use Rattle.warm_pool.specs.Outcomes.{LoadFails, PinFails, UnreadPinFails}
use Rattle.warm_pool.proofs.PageByteLemmas.{absent_seen}
use Rattle.warm_pool.proofs.CallLemmas.{same_none, same_unread}
use Rattle.warm_pool.proofs.UnchangedLemmas.{failed_leaves, full_leaves, unknown_leaves}
use Rattle.warm_pool.proofs.PinLemmas.{full_stays, load_refused, pin_full, pin_refused, put_refused, put_stays, same_frames, stays_by}
use Rattle.warm_pool.proofs.ZeroingLemmas.{full_leaves_unread, full_unread, unknown_leaves_unread, unknown_unread, zero_failed, zero_leaves, zero_unread}

-- what both outcomes have holds after the call
pub either_way : {T E A : Type 0} (P : T → Type 0) (Q : E → Type 0) (r : Result T E) → IfOk r P
    → IfErr r Q → ((x : T) → P x → A) → ((e : E) → Q e → A) → A
either_way P Q (Ok x) done refused if_done if_refused = if_done x done
either_way P Q (Err e) done refused if_done if_refused = if_refused e refused

-- A page that no device has

module _ (h : HistoryView) (s : PoolState) (p : PageId) (hasnt : HasPage (view_of s) p → ⊥)
    (why : PoolFault)
    (load : LoadRefused h (view_of s) p why (view_of s))
    (pin : PinRefused h (view_of s) p why (view_of s)) where
  pub unknown_load_fails : LoadFails h p s why s
  unknown_load_fails = record {
    cause = load;
    stays = stays_by (view_of s) (view_of s) (view_of s).failures refl;
    frames = refl;
    devices = unknown_leaves h s p hasnt why load;
    unflushed = same_none refl;
  }

  pub unknown_pin_fails : PinFails h p s why s
  unknown_pin_fails = record {
    cause = pin;
    stays = stays_by (view_of s) (view_of s) (view_of s).failures refl;
    frames = refl;
    devices = unknown_leaves h s p hasnt why load;
    unflushed = same_none refl;
  }

  pub unknown_unread_fails : UnreadPinFails h p s why s
  unknown_unread_fails = record {
    cause = unknown_unread h s p hasnt why pin;
    stays = stays_by (view_of s) (view_of s) (view_of s).failures refl;
    frames = refl;
    devices = unknown_leaves_unread h s p hasnt why load;
    unread = same_unread refl;
    unflushed = same_none refl;
  }

-- A resident page with the greatest pin count

module _ (h : HistoryView) (s t : PoolState) (p : PageId) (i : ℕ) (has : HasPage (view_of s) p)
    (there : i < length s.frames) (holds : (nth_frame s.frames i).page ≡ Some p) where
  pub full_pin_fails : {T : Type 0} (r : Result T PoolFault) → IfErr r (λ why. FixRefused s i why t)
      → IfErr r (λ why. PinFails h p s why t)
  full_pin_fails {T} (Ok x) full = tt
  full_pin_fails {T} (Err why) full =
      let r : Result T PoolFault = Err why in record {
        cause = pin_full s t h p i has there holds r full;
        stays = full_stays s t i r full;
        frames = ap (λ u. u.frames) full.2;
        devices = full_leaves h s t i p r full;
        unflushed = same_none (ap (λ u. u.devices) full.2);
      }

  pub full_unread_fails : {T : Type 0} (r : Result T PoolFault)
      → IfErr r (λ why. FixRefused s i why t) → IfErr r (λ why. UnreadPinFails h p s why t)
  full_unread_fails {T} (Ok x) full = tt
  full_unread_fails {T} (Err why) full =
      let r : Result T PoolFault = Err why in record {
        cause = (pin_full s t h p i has there holds r full, full_unread s t i r full);
        stays = full_stays s t i r full;
        frames = ap (λ u. u.frames) full.2;
        devices = full_leaves_unread h s t i r full;
        unread = same_unread (ap (λ u. u.devices) full.2);
        unflushed = same_none (ap (λ u. u.devices) full.2);
      }

-- A page that is in no frame

-- a load that fails is a pin that fails
pub load_pin_fails : (h : HistoryView) (s t : PoolState) (p : PageId) (why : PoolFault)
    → LoadFails h p s why t → PinFails h p s why t
load_pin_fails h s t p why l = record {
  cause = pin_refused h (view_of s) p (view_of t) why l.cause;
  stays = l.stays;
  frames = l.frames;
  devices = l.devices;
  unflushed = l.unflushed;
}

module _ (h : HistoryView) (s : PoolState) (p : PageId) (has : HasPage (view_of s) p)
    (away : IsNowhere s.frames p) where
  -- no device was called
  module _ (why : PoolFault) (put : PutRefused h (view_of s) p why (view_of s)) where
    pub unput_load_fails : LeavesDevices h s p why s → LoadFails h p s why s
    unput_load_fails devices = record {
      cause = load_refused h (view_of s) p (view_of s) has (absent_seen s p away) why put;
      stays = put_stays h (view_of s) p (view_of s) why put;
      frames = refl;
      devices = devices;
      unflushed = same_none refl;
    }

    pub unput_unread_fails : why ≢ ReadFault → LeavesUnread h s why s → UnreadPinFails h p s why s
    unput_unread_fails isnt devices = record {
      cause = (
        pin_refused h (view_of s) p (view_of s) why
            (load_refused h (view_of s) p (view_of s) has (absent_seen s p away) why put),
        isnt,
      );
      stays = put_stays h (view_of s) p (view_of s) why put;
      frames = refl;
      devices = devices;
      unread = same_unread refl;
      unflushed = same_none refl;
    }

  -- a call of a device failed
  module _ (t : PoolState) (i : ℕ) (to_load : IsFrameToLoad h (view_of s) (Some i))
      (room : (nth_frame s.frames i).generation < 2 ^ 64 - 1)
      (unflushed : FlushesNone s.devices t.devices) (why : PoolFault) where
    pub fetch_fails : FetchFails s (read_at p.dev s.devices) i p why t → LoadFails h p s why t
    fetch_fails l =
        let put : PutRefused h (view_of s) p why (view_of t) =
        put_refused s (read_at p.dev s.devices) t h i p to_load room why l in
        record {
          cause = load_refused h (view_of s) p (view_of t) has (absent_seen s p away) why put;
          stays = put_stays h (view_of s) p (view_of t) why put;
          frames = same_frames s (read_at p.dev s.devices) t i p why l;
          devices = failed_leaves h s t i p to_load unflushed why l;
          unflushed = unflushed;
        }

    pub victim_fails : ReadsNone s.devices t.devices → ZeroFails s i why t
        → UnreadPinFails h p s why t
    victim_fails unread l =
        let fails = zero_failed s t i p why l in
        let put : PutRefused h (view_of s) p why (view_of t) =
        put_refused s s.devices t h i p to_load room why fails in
        record {
          cause = (
            pin_refused h (view_of s) p (view_of t) why
                (load_refused h (view_of s) p (view_of t) has (absent_seen s p away) why put),
            zero_unread s t i why l,
          );
          stays = put_stays h (view_of s) p (view_of t) why put;
          frames = same_frames s s.devices t i p why fails;
          devices = zero_leaves h s t i to_load unflushed why l;
          unread = unread;
          unflushed = unflushed;
        }

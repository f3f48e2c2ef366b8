-- Facts that hold after a call whether it was refused or not, from the records of its two outcomes.
use Rattle.std.proofs.Common.{◌≡◌, ℕ, Bool, List, length, Result, Ok, Err, OnOk, IfOk, IfErr, ap}
use Rattle.warm_stamps.specs.declared.PageId.{PageId}
use Rattle.warm_history.specs.Histories.{HistoryView}
use Rattle.warm_devices.specs.Device.{DeviceState}
use Rattle.warm_pool.specs.declared.slot.Slot.{Slot}
use Rattle.warm_pool.specs.declared.slot.Placed.{Placed}
use Rattle.warm_pool.specs.declared.fault.PoolFault.{PoolFault}
use Rattle.warm_pool.specs.State.{PoolState}
use Rattle.warm_pool.specs.View.{PoolView}
use Rattle.warm_pool.specs.Calls.{FlushesNone, FlushesOnce, ReadsNone}
use Rattle.warm_pool.specs.PageBytes.{ReadRefused}
use Rattle.warm_pool.specs.Retiring.{KeepsElsewhere}
use Rattle.warm_pool.specs.WritingSome.{KeepsOtherDevices}
use Rattle.warm_pool.specs.Outcomes.{EmptiesPool, EmptyFails, FillsPage, FlushDeviceFails, SettlesDevice, LoadFails, LoadsPage, LoadsPlaced, PinFails, PinsPage, PinsPlaced, CopiesBytes, ReplacesDevice, RetireFails, RetiresDevice, UnreadPinFails, WriteAllFails, WritePageFails, WriteSomeFails, WritesAllBack, WritesPageBack, WritesSomeBack, ZeroesPage}
use Rattle.warm_pool.proofs.OutcomeLemmas.{either_way}

-- pins and loads
module _ (h : HistoryView) (s t : PoolState) (p : PageId) where
  module _ (r : Result Slot PoolFault) where
    module _ (done : IfOk r (λ slot. PinsPage h p s slot t))
        (refused : IfErr r (λ why. PinFails h p s why t)) where
      pub pin_unflushed : FlushesNone s.devices t.devices
      pin_unflushed = either_way _ _ r done refused (λ slot x. x.frame.unflushed) (λ why x. x.unflushed)

    module _ (done : IfOk r (λ slot. LoadsPage h p s slot t))
        (refused : IfErr r (λ why. LoadFails h p s why t)) where
      pub load_unflushed : FlushesNone s.devices t.devices
      load_unflushed = either_way _ _ r done refused (λ slot x. x.frame.unflushed) (λ why x. x.unflushed)

    module _ (done : IfOk r (λ slot. ZeroesPage h p s slot t))
        (refused : IfErr r (λ why. UnreadPinFails h p s why t)) where
      pub zeroed_unflushed : FlushesNone s.devices t.devices
      zeroed_unflushed = either_way _ _ r done refused (λ slot x. x.frame.unflushed) (λ why x. x.unflushed)

  module _ (r : Result Placed PoolFault) where
    module _ (done : IfOk r (λ placed. PinsPlaced h p s placed t))
        (refused : IfErr r (λ why. PinFails h p s why t)) where
      pub pin_placed_unflushed : FlushesNone s.devices t.devices
      pin_placed_unflushed = either_way _ _ r done refused (λ placed x. x.pin.frame.unflushed) (λ why x. x.unflushed)

    module _ (done : IfOk r (λ placed. LoadsPlaced h p s placed t))
        (refused : IfErr r (λ why. LoadFails h p s why t)) where
      pub load_placed_unflushed : FlushesNone s.devices t.devices
      load_placed_unflushed = either_way _ _ r done refused (λ placed x. x.load.frame.unflushed) (λ why x. x.unflushed)

    module _ (bytes : List ℕ) (done : IfOk r (λ placed. FillsPage h p bytes s placed t))
        (refused : IfErr r (λ why. UnreadPinFails h p s why t)) where
      pub filled_unread : ReadsNone s.devices t.devices
      filled_unread = either_way _ _ r done refused (λ placed x. x.frame.unread) (λ why x. x.unread)

      pub filled_unflushed : FlushesNone s.devices t.devices
      filled_unflushed = either_way _ _ r done refused (λ placed x. x.frame.unflushed) (λ why x. x.unflushed)

-- reads and writes
pub read_len : (s : PoolState) (v : PoolView) (slot : Slot) (at : ℕ) (old new : List ℕ)
    (r : Result (Unit {0}) PoolFault) → OnOk r (CopiesBytes v slot at old new)
    → IfErr r (λ why. ReadRefused s at old why new) → length new ≡ length old
read_len s v slot at old new (Ok x) done refused = done.len
read_len s v slot at old new (Err why) done refused = ap length refused.2

-- write-backs
module _ (s t : PoolState) where
  module _ (r : Result (Unit {0}) PoolFault) (done : OnOk r (WritesAllBack s t))
      (refused : IfErr r (λ why. WriteAllFails s why t)) where
    pub all_once : FlushesOnce s.devices t.devices
    all_once = either_way (λ _. WritesAllBack s t) _ r done refused (λ x d. d.once) (λ why x. x.once)

  module _ (limit : ℕ) (r : Result ℕ PoolFault) (done : IfOk r (λ left. WritesSomeBack limit s left t))
      (refused : IfErr r (λ why. WriteSomeFails limit s why t)) where
    pub some_unflushed : FlushesNone s.devices t.devices
    some_unflushed = either_way _ _ r done refused (λ left x. x.unflushed) (λ why x. x.unflushed)

  module _ (p : PageId) (r : Result Bool PoolFault)
      (done : IfOk r (λ was_dirty. WritesPageBack p s was_dirty t))
      (refused : IfErr r (λ why. WritePageFails p s why t)) where
    pub page_unflushed : FlushesNone s.devices t.devices
    page_unflushed = either_way _ _ r done refused (λ was_dirty x. x.unflushed) (λ why x. x.unflushed)

  module _ (dev : ℕ) (r : Result (Unit {0}) PoolFault) (done : OnOk r (SettlesDevice dev s t))
      (refused : IfErr r (λ why. FlushDeviceFails dev s why t)) where
    pub device_elsewhere : KeepsElsewhere dev s t
    device_elsewhere = either_way (λ _. SettlesDevice dev s t) _ r done refused (λ x d. d.elsewhere) (λ why x. x.elsewhere)

    pub device_others : KeepsOtherDevices dev s t
    device_others = either_way (λ _. SettlesDevice dev s t) _ r done refused (λ x d. d.others) (λ why x. x.others)

    pub device_once : FlushesOnce s.devices t.devices
    device_once = either_way (λ _. SettlesDevice dev s t) _ r done refused (λ x d. d.once) (λ why x. x.once)

  -- and pages that leave
  module _ (r : Result (Unit {0}) PoolFault) (done : OnOk r (EmptiesPool s t))
      (refused : IfErr r (λ why. EmptyFails s why t)) where
    pub empty_once : FlushesOnce s.devices t.devices
    empty_once = either_way (λ _. EmptiesPool s t) _ r done refused (λ x d. d.once) (λ why x. x.once)

  module _ {T E : Type 0} (state : T → DeviceState) (fault : E → PoolFault) (dev : ℕ)
      (device : DeviceState) (r : Result T E)
      (done : IfOk r (λ was. ReplacesDevice dev device s (state was) t))
      (refused : IfErr r (λ e. RetireFails dev device s (fault e) t)) where
    pub replace_elsewhere : KeepsElsewhere dev s t
    replace_elsewhere = either_way _ _ r done refused (λ was x. x.retires.elsewhere) (λ e x. x.elsewhere)

    pub replace_others : KeepsOtherDevices dev s t
    replace_others = either_way _ _ r done refused (λ was x. x.retires.others) (λ e x. x.others)

  module _ {E : Type 0} (fault : E → PoolFault) (dev : ℕ) (device : DeviceState)
      (r : Result (Unit {0}) E) (done : OnOk r (RetiresDevice dev device s t))
      (refused : IfErr r (λ e. RetireFails dev device s (fault e) t)) where
    pub retire_elsewhere : KeepsElsewhere dev s t
    retire_elsewhere = either_way (λ _. RetiresDevice dev device s t) _ r done refused (λ x d. d.elsewhere) (λ e x. x.elsewhere)

    pub retire_others : KeepsOtherDevices dev s t
    retire_others = either_way (λ _. RetiresDevice dev device s t) _ r done refused (λ x d. d.others) (λ e x. x.others)

-- The steps of a pin of a page that gets zeros.
use Rattle.std.specs.Prelude.{ℕ, ◌≡◌, ◌-◌, true, false, replicate, set, Some}
use Rattle.warm_stamps.specs.declared.PageId.{PageId}
use Rattle.warm_rank.specs.declared.RankKey.{RankKey}
use Rattle.warm_frame_table.specs.Frames.{FrameState, nth_frame}
use Rattle.warm_frame_table.specs.FrameSteps.{loaded_frame}
use Rattle.warm_pool.specs.declared.slot.Slot.{Slot}
use Rattle.warm_pool.specs.declared.fault.PoolFault.{PoolFault}
use Rattle.warm_pool.specs.declared.fault.PoolFault.TheVariants.{WriteBack}
use Rattle.warm_pool.specs.Unchanged.{KeepsOthers}
use Rattle.warm_pool.specs.State.{PoolState}
use Rattle.warm_pool.specs.View.{contents_at, view_of}
use Rattle.warm_pool.specs.WritingBack.{WaitsFor}
use Rattle.warm_pool.specs.Zeroing.{FixesZeroed, KeepsContentsBut}
use Rattle.warm_pool.specs.steps.WritingBack.{CleanFails}

-- a frame with this page, one pin, this rank and this many zeros
abbrev pub zeroed_frame : PageId → RankKey → ℕ → FrameState → FrameState
zeroed_frame page key size f =
    record (loaded_frame page key 1 (replicate size 0) f) { dirty = true }

-- the page is in the frame, with zeros, this rank and one pin
pub record ZeroesInto (old : PoolState) (i : ℕ) (p : PageId) (key : RankKey)
    (new : PoolState) : Type 0 where
  pub frames : new.frames
      ≡ set old.frames i (zeroed_frame p key old.page_size (nth_frame old.frames i))
  pub devices : (nth_frame old.frames i).dirty ≡ false → new.devices ≡ old.devices
  pub waits : WaitsFor old i new.devices
  pub rest : view_of new
      ≡ record (view_of old) { frames = (view_of new).frames; contents = (view_of new).contents }
  pub zeros : contents_at (view_of new) p ≡ replicate old.page_size 0
  pub others : KeepsContentsBut p (view_of old) (view_of new)

-- the write of the frame's page failed
abbrev pub ZeroFails : PoolState → ℕ → PoolFault → PoolState → Type 0
ZeroFails old i why new = (why ≡ WriteBack) × CleanFails old i new

-- the resident page of the frame has one more pin, and zeros; nothing else has changed
pub record FixesZeros (old : PoolState) (i : ℕ) (slot : Slot) (new : PoolState) : Type 0 where
  pub zeroed : (p : PageId) → (nth_frame old.frames i).page ≡ Some p
      → FixesZeroed (view_of old) p slot (view_of new)
  pub dirty : (nth_frame new.frames slot.index).dirty ≡ true
  pub others : KeepsOthers slot.index old new
  pub devices : new.devices ≡ old.devices

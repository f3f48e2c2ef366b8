-- Reading and writing the bytes of a page.
use Rattle.std.specs.Prelude.{ℕ, ◌≡◌, ◌≢◌, ◌<◌, ◌≤◌, List, length, Some, ◌+◌, true, take}
use Rattle.std.specs.Prelude.{drop}
use Rattle.warm_stamps.specs.declared.PageId.{PageId}
use Rattle.warm_frame_table.specs.Frames.{nth_frame}
use Rattle.warm_frame_table.specs.FrameSteps.{patched}
use Rattle.warm_pool.specs.declared.slot.Slot.{Slot}
use Rattle.warm_pool.specs.declared.fault.PoolFault.{PoolFault}
use Rattle.warm_pool.specs.declared.fault.PoolFault.TheVariants.{OutOfPage}
use Rattle.warm_pool.specs.State.{PoolState}
use Rattle.warm_pool.specs.View.{PoolView, frame_at, contents_at, HasPage}
use Rattle.warm_pool.specs.Unchanged.{KeepsOthers}

-- the bytes lent are all those of the slot's page
pub record IsLent (v : PoolView) (slot : Slot) (bytes : List ℕ) : Type 0 where
  pub page : PageId
  pub holds : (frame_at v slot.index).page ≡ Some page
  pub size : length bytes ≡ v.page_size
  pub all : bytes ≡ contents_at v page

-- the bytes read are those of the slot's page from `at` on
pub record IsRead (v : PoolView) (slot : Slot) (at : ℕ) (got : List ℕ) : Type 0 where
  pub page : PageId
  pub holds : (frame_at v slot.index).page ≡ Some page
  pub within : at + length got ≤ v.page_size
  pub bytes : got ≡ take (length got) (drop at (contents_at v page))

-- this many bytes from `at` on are not within a page, and the output buffer is unchanged
abbrev pub ReadRefused : PoolState → ℕ → List ℕ → PoolFault → List ℕ → Type 0
ReadRefused s at old fault new = (fault ≡ OutOfPage) × (s.page_size < at + length old) × (new ≡ old)

-- the bytes of the slot's page from `at` on are these, and no other byte of any page has changed
pub record Written (old : PoolView) (slot : Slot) (at : ℕ) (put : List ℕ)
    (new : PoolView) : Type 0 where
  pub page : PageId
  pub holds : (frame_at old slot.index).page ≡ Some page
  pub within : at + length put ≤ old.page_size
  pub becomes : new ≡ record old { contents = new.contents }
  pub bytes : contents_at new page ≡ patched (contents_at old page) at put
  pub others : (q : PageId) → HasPage old q → q ≢ page → contents_at new q ≡ contents_at old q

-- these bytes from `at` on are not within a page, and nothing has changed
abbrev pub WriteRefused : PoolState → ℕ → List ℕ → PoolFault → PoolState → Type 0
WriteRefused old at put fault new = (fault ≡ OutOfPage) × (old.page_size < at + length put)
    × (new ≡ old)

-- the slot's frame is dirty, and nothing else has changed
pub record MakesDirty (old : PoolState) (slot : Slot) (new : PoolState) : Type 0 where
  pub dirty : (nth_frame new.frames slot.index).dirty ≡ true
  pub others : KeepsOthers slot.index old new
  pub devices : new.devices ≡ old.devices

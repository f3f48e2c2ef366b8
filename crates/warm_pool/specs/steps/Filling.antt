-- The step of a pin of given bytes.
use Rattle.std.specs.Prelude.{ℕ, ◌≡◌, List}
use Rattle.warm_stamps.specs.declared.PageId.{PageId}
use Rattle.warm_rank.specs.declared.RankKey.{RankKey}
use Rattle.warm_pool.specs.State.{PoolState}
use Rattle.warm_pool.specs.View.{contents_at, view_of}
use Rattle.warm_pool.specs.steps.Pinning.{LoadsInto}

-- the page is in the frame as after a load, with one pin and these bytes, and was not read
pub record FillsInto (old : PoolState) (i : ℕ) (p : PageId) (key : RankKey) (bytes : List ℕ)
    (new : PoolState) : Type 0 where
  pub loads : LoadsInto old old.devices i p key 1 new
  pub filled : contents_at (view_of new) p ≡ bytes

-- The numbers of a setup, and their limits.
use Rattle.std.specs.Prelude.{ℕ}
use Rattle.warm_stamps.specs.declared.TheConstants.{MAX_REPLICAS}
use Rattle.warm_rank.specs.declared.TheConstants.{MAX_FRAMES}
use Rattle.warm_refbuffer.specs.declared.TheConstants.{MAX_CAPACITY}
use Rattle.warm_devices.specs.declared.TheConstants.{MAX_PAGE_SIZE}
use Rattle.warm_world.specs.declared.TheConstants.{MAX_WORKERS}
use Rattle.warm_world.specs.Limits.{IsWithin}

-- the numbers of a setup
pub record Sizes : Type 0 where
  -- the number of replicas
  pub replicas : ℕ
  -- the number of workers of each of them
  pub workers : ℕ
  -- the capacity of a worker's buffer, in references
  pub buffer : ℕ
  -- the number of frames of a replica's pool
  pub frames : ℕ
  -- the page size in bytes
  pub page_size : ℕ

-- each number is within its limits
pub record IsSetup (s : Sizes) : Type 0 where
  pub replicas : IsWithin MAX_REPLICAS s.replicas
  pub workers : IsWithin MAX_WORKERS s.workers
  pub buffer : IsWithin MAX_CAPACITY s.buffer
  pub frames : IsWithin MAX_FRAMES s.frames
  pub page_size : IsWithin MAX_PAGE_SIZE s.page_size

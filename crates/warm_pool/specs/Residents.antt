-- The number of resident pages.
use Rattle.std.specs.Prelude.{List, map}
use Rattle.warm_stamps.specs.declared.PageId.{PageId}
use Rattle.warm_rank.specs.Laws.{pages_in}
use Rattle.warm_pool.specs.View.{PoolView}

-- the resident pages, in the order of their frames; none is twice among them
abbrev pub resident_pages : PoolView → List PageId
resident_pages v = pages_in (map (λ f. f.page) v.frames)

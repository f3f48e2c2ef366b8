-- The entries of a bucket, or those after a page of it.
use Rattle.std.specs.Prelude.{ℕ, ◌==◌, ◌&&◌, Bool, true, List, filter, Option, Some, None}
use Rattle.std.specs.Ordering.{is_lt}
use Rattle.warm_stamps.specs.declared.PageId.{PageId}
use Rattle.warm_stamps.specs.Buckets.{page_bucket}
use Rattle.warm_stamps.specs.Stamps.{page_cmp}
use Rattle.warm_maps.specs.declared.hist.Entry.{Entry}

-- the page p is greater than the given one, if one is given
abbrev pub comes_after : Option PageId → PageId → Bool
comes_after None p = true
comes_after (Some last) p = is_lt (page_cmp last p)

-- the page is in the bucket, and after the given one
abbrev pub is_next_in_bucket : ℕ → Option PageId → PageId → Bool
is_next_in_bucket bucket after p = (page_bucket p == bucket) && comes_after after p

-- the entries of a bucket whose page is greater than the given one, if one is given
abbrev pub later_of_bucket : ℕ → Option PageId → List Entry → List Entry
later_of_bucket bucket after es = filter (λ e. is_next_in_bucket bucket after e.page) es

-- the entries whose page is greater than the given one
abbrev pub after_page : PageId → List Entry → List Entry
after_page last es = filter (λ e. is_lt (page_cmp last e.page)) es

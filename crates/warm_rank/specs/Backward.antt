-- The backward 2-distance as LRU-2 defines it: counted in places over the references, in the order
-- in which they were made.
use Rattle.std.specs.Prelude.{ℕ, ◌==◌, ◌&&◌, List, [], ◌∷◌, length, count_by, Option, Some, None}
use Rattle.std.specs.Prelude.{if◌then◌else◌}
use Rattle.std.specs.Ordering.{is_eq, on}
use Rattle.warm_stamps.specs.declared.PageId.{PageId}
use Rattle.warm_stamps.specs.declared.Reference.{Reference}
use Rattle.warm_stamps.specs.Stamps.{stamp_cmp, page_cmp}
use Rattle.warm_stamps.specs.Distinct.{IsAscending}

-- references in the order of their stamps, all of which differ
abbrev pub StampsAscend : List Reference → Type 0
StampsAscend rs = IsAscending (on (λ r. r.stamp) stamp_cmp) rs

-- the number of references to the page p
abbrev pub count_to : List Reference → PageId → ℕ
count_to rs p = count_by (λ r. is_eq (page_cmp r.page p)) rs

-- the number of references after the second last one to the page p; none if fewer than two are to
-- it
abbrev pub places_back : List Reference → PageId → Option ℕ
places_back [] p = None
places_back (r ∷ later) p =
    if is_eq (page_cmp r.page p) && (count_to later p == 1) then Some (length later)
    else places_back later p

-- The order in which pages are evicted: by backward 2-distance, counted over a set of references.
use Rattle.std.specs.Prelude.{◌≡◌, ◌≢◌, ℕ, List, [], ◌∷◌, Option, Some, None, count_by, take}
use Rattle.std.specs.Prelude.{Contains, MatchOption}
use Rattle.std.specs.Option.{option_cmp}
use Rattle.std.specs.Ordering.{is_lt, nat_cmp, on, then_cmp, flip_args}
use Rattle.std.specs.declared.cmp.Ordering.{Ordering}
use Rattle.std.specs.declared.cmp.Ordering.TheVariants.{Less}
use Rattle.warm_stamps.specs.declared.Stamp.{Stamp}
use Rattle.warm_stamps.specs.declared.PageId.{PageId}
use Rattle.warm_stamps.specs.Stamps.{stamp_cmp, page_cmp, reference_cmp}
use Rattle.warm_stamps.specs.Distinct.{distinct}
use Rattle.warm_history.specs.ReferenceSets.{ReferenceSet, references}
use Rattle.warm_history.specs.Histories.{stamps, pages}

-- the number of distinct references of S that are later than the stamp s
abbrev pub count_later : ReferenceSet → Stamp → ℕ
count_later S s =
    count_by (λ r. is_lt (stamp_cmp s r.stamp)) (distinct reference_cmp (references S))

-- the number of references of S that are later than the second of these stamps; none if there is no
-- second
abbrev pub distance_from : ReferenceSet → List Stamp → Option ℕ
distance_from S [] = None
distance_from S (last ∷ []) = None
distance_from S (last ∷ prev ∷ older) = Some (count_later S prev)

-- the backward 2-distance of the page p over S, none if it is infinite
abbrev pub dist : ReferenceSet → PageId → Option ℕ
dist S p = distance_from S (stamps S p)

-- the first of a list of stamps, if there is one
abbrev pub first : List Stamp → Option Stamp
first [] = None
first (last ∷ older) = Some last

-- the latest stamp of the page p in S, if it has one
abbrev pub latest : ReferenceSet → PageId → Option Stamp
latest S p = first (stamps S p)

-- the greater distance first; an infinite one comes before all others
abbrev pub farther_cmp : Option ℕ → Option ℕ → Ordering
farther_cmp = option_cmp (flip_args nat_cmp)

-- the older stamp first; no stamp comes before all others
abbrev pub older_cmp : Option Stamp → Option Stamp → Ordering
older_cmp = option_cmp stamp_cmp

-- the eviction order: the greatest distance first, of equal ones the oldest latest stamp, then the
-- least page
unfoldable pub eviction_cmp : ReferenceSet → PageId → PageId → Ordering
eviction_cmp S = then_cmp (on (dist S) farther_cmp) (then_cmp (on (latest S) older_cmp) page_cmp)

-- the page p is evicted before the page q
abbrev pub IsBefore : ReferenceSet → PageId → PageId → Type 0
IsBefore S p q = eviction_cmp S p q ≡ Less

-- the page of U that is evicted before every other page of U; none if U is empty
abbrev pub IsVictim : ReferenceSet → List PageId → Option PageId → Type 0
IsVictim S U victim = MatchOption victim (U ≡ [])
    (λ p. Contains U p × ((q : PageId) → Contains U q → q ≢ p → IsBefore S p q))

-- the n pages named in S that are evicted last, the last of all first
abbrev pub hottest_pages : ReferenceSet → ℕ → List PageId
hottest_pages S n = take n (distinct (flip_args (eviction_cmp S)) (pages S))

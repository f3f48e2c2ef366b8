-- The length of a list of pages.
use Rattle.std.proofs.Common.{◌≤◌, ℕ, arith, length}
use Rattle.std.proofs.lemmas.List.{length-take}
use Rattle.std.specs.Ordering.{flip_args}
use Rattle.warm_stamps.specs.Distinct.{distinct}
use Rattle.warm_history.specs.Histories.{pages}
use Rattle.warm_history.specs.ReferenceSets.{ReferenceSet}
use Rattle.warm_rank.specs.Ranking.{eviction_cmp, hottest_pages}

-- the hottest pages are no more than were asked for
pub few_listed : (S : ReferenceSet) (n : ℕ) → length (hottest_pages S n) ≤ n
few_listed S n = omega (arith, length-take n (distinct (flip_args (eviction_cmp S)) (pages S)))

-- The laws of the eviction order.
use Rattle.std.specs.Prelude.{◌≡◌, ◌≢◌, ◌⊎◌, ◌≤◌, ℕ, List, Option, Some, None, map, Contains}
use Rattle.std.specs.List.{filter_map}
use Rattle.std.specs.Option.{option_and_then, option_map}
use Rattle.warm_stamps.specs.declared.PageId.{PageId}
use Rattle.warm_history.specs.ReferenceSets.{ReferenceSet, references}
use Rattle.warm_history.specs.Histories.{HistoryView, hist, references_of, StandsFor}
use Rattle.warm_history.specs.References.{SameReferences}
use Rattle.warm_rank.specs.declared.RankKey.{RankKey}
use Rattle.warm_rank.specs.Keys.{rank_key, key_cmp}
use Rattle.warm_rank.specs.Backward.{StampsAscend, places_back}
use Rattle.warm_rank.specs.Ranking.{dist, eviction_cmp, IsBefore, IsVictim, hottest_pages}
use Rattle.warm_rank.specs.Slots.{key_at, IsLeast}

-- over references in the order of their stamps, all of which differ, the distance is counted in
-- places
abbrev pub DistanceIsPlacesBack : Type 0
DistanceIsPlacesBack = (S : ReferenceSet) (p : PageId) → StampsAscend (references S)
    → dist S p ≡ places_back (references S) p

-- of two pages, the one with the lesser key is evicted first: keys compare as their pages do
abbrev pub KeysOrderPages : Type 0
KeysOrderPages = (S : ReferenceSet) (p q : PageId)
    → key_cmp (rank_key p (hist S p)) (rank_key q (hist S q)) ≡ eviction_cmp S p q

-- of two different pages exactly one is evicted before the other: the order is total, transitive
-- and irreflexive
pub record OrdersPages (S : ReferenceSet) : Type 0 where
  pub total : (p q : PageId) → p ≢ q → IsBefore S p q ⊎ IsBefore S q p
  pub transitive : (p q r : PageId) → IsBefore S p q → IsBefore S q r → IsBefore S p r
  pub irreflexive : (p : PageId) → IsBefore S p p → ⊥

-- whatever the references are, eviction orders pages: totally, transitively and irreflexively
abbrev pub EvictionIsOrder : Type 0
EvictionIsOrder = (S : ReferenceSet) → OrdersPages S

-- over both sets any two pages are evicted in the same order, and the warm-up lists are the same
pub record RankAlike (S T : ReferenceSet) : Type 0 where
  pub evicted_alike : (p q : PageId) → eviction_cmp S p q ≡ eviction_cmp T p q
  pub hottest_alike : (n : ℕ) → hottest_pages S n ≡ hottest_pages T n

-- the references that a history holds rank pages as those for which it stands do
abbrev pub TruncationKeepsOrder : Type 0
TruncationKeepsOrder = (h : HistoryView) (S : ReferenceSet) → StandsFor h S
    → RankAlike (references_of h) S

-- sets of the same references rank pages alike
abbrev pub SameReferencesRankAlike : Type 0
SameReferencesRankAlike = (S T : ReferenceSet) → SameReferences S T → RankAlike S T

-- the keys over S of the pages in slots, each of which may have a page
abbrev pub keys_over : ReferenceSet → List (Option PageId) → List (Option RankKey)
keys_over S slots = map (option_map (λ p. rank_key p (hist S p))) slots

-- the pages in the slots
abbrev pub pages_in : List (Option PageId) → List PageId
pages_in slots = filter_map (λ page. page) slots

-- the page of a slot, if there is a slot and it has a page
abbrev pub page_of_slot : List (Option PageId) → Option ℕ → Option PageId
page_of_slot slots slot = option_and_then (key_at slots) slot

-- the page in the slot of the least key is the victim among the pages in the slots
abbrev pub LeastKeyIsVictim : Type 0
LeastKeyIsVictim = (S : ReferenceSet) (slots : List (Option PageId)) (least : Option ℕ)
    → IsLeast key_cmp (keys_over S slots) least
    → IsVictim S (pages_in slots) (page_of_slot slots least)

-- the first distance is at most the second; none is infinite
abbrev pub IsNotFarther : Option ℕ → Option ℕ → Type 0
IsNotFarther x None = Unit {0}
IsNotFarther None (Some n) = ⊥
IsNotFarther (Some m) (Some n) = m ≤ n

-- the page is in U, and no page of U has a greater backward 2-distance
pub record IsFarthest (S : ReferenceSet) (U : List PageId) (v : PageId) : Type 0 where
  pub one_of : Contains U v
  pub farthest : (p : PageId) → Contains U p → IsNotFarther (dist S p) (dist S v)

-- the victim over what a history holds is one of the pages farthest back over all references for
-- which it stands
abbrev pub VictimIsFarthest : Type 0
VictimIsFarthest = (h : HistoryView) (S : ReferenceSet) → StandsFor h S
    → (U : List PageId) (v : PageId) → IsVictim (references_of h) U (Some v) → IsFarthest S U v

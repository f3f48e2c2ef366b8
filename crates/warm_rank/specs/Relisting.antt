-- How a warm-up list is kept while references are taken in: a page that none of them names keeps
-- its rank, and no page falls. So only the named pages move, and no page that is not listed passes
-- one that is, unless it is named.
use Rattle.std.specs.Prelude.{◌≡◌, ℕ, ◌≤◌, Bool, not, false, List, ◌++◌, filter, map, take}
use Rattle.std.specs.Prelude.{slice_index_or, Some, IsPermutation, Contains}
use Rattle.std.specs.List.{filter_map}
use Rattle.std.specs.Option.{option_map}
use Rattle.std.specs.Ordering.{is_lt, eq_by_cmp, flip_args}
use Rattle.std.specs.Set.{is_member}
use Rattle.warm_stamps.specs.declared.PageId.{PageId}
use Rattle.warm_stamps.specs.Stamps.{page_cmp}
use Rattle.warm_stamps.specs.Distinct.{distinct}
use Rattle.warm_history.specs.ReferenceSets.{ReferenceSet, ◌∪◌}
use Rattle.warm_history.specs.Histories.{HistoryView, hist, history, references_of, StandsFor}
use Rattle.warm_rank.specs.declared.RankKey.{RankKey}
use Rattle.warm_rank.specs.Keys.{rank_key, key_cmp, ranked_page}
use Rattle.warm_rank.specs.WarmUp.{entry_keys}

-- Lists of keys

-- the n greatest of these keys, each once, the greatest first
abbrev pub greatest_keys : List RankKey → ℕ → List RankKey
greatest_keys keys n = take n (distinct (flip_args key_cmp) keys)

-- the keys of the n hottest pages named in S, that of the hottest first
abbrev pub hottest_keys : ReferenceSet → ℕ → List RankKey
hottest_keys S n = greatest_keys (entry_keys (history S)) n

-- the keys of the n hottest pages, whichever references the history stands for
abbrev pub AreHottest : HistoryView → ℕ → List RankKey → Type 0
AreHottest h n keys = (S : ReferenceSet) → StandsFor h S → keys ≡ hottest_keys S n

-- the keys of the n hottest pages, whichever references have a history with the given keys, in any
-- order
abbrev pub AreHottestOfKeys : List RankKey → ℕ → List RankKey → Type 0
AreHottestOfKeys given n keys = (S : ReferenceSet) → IsPermutation (entry_keys (history S)) given
    → keys ≡ hottest_keys S n

-- the page of the key with this number, of those counted from 0
abbrev pub listed_page : List RankKey → ℕ → PageId
listed_page keys i = slice_index_or (map ranked_page keys) i (record { dev = 0; no = 0 })

-- Pages that rise

-- the key of the page p over S
abbrev pub page_key : ReferenceSet → PageId → RankKey
page_key S p = rank_key p (hist S p)

-- from S to T no page falls, and each page but these has the same two latest stamps
pub record RaisesOnly (changed : List PageId) (S T : ReferenceSet) : Type 0 where
  pub none_falls : (p : PageId) → is_lt (key_cmp (page_key T p) (page_key S p)) ≡ false
  pub others_stay : (p : PageId) → (Contains changed p → ⊥) → hist T p ≡ hist S p

-- the keys of the n hottest pages over earlier references, from which to the history's own only
-- these pages rise
pub record WereHottest (h : HistoryView) (n : ℕ) (changed : List PageId)
    (keys : List RankKey) : Type 0 where
  pub earlier : ReferenceSet
  pub listed : keys ≡ hottest_keys earlier n
  pub raised : RaisesOnly changed earlier (references_of h)

-- The list after a raise

-- the page is one of these
abbrev pub is_among : List PageId → PageId → Bool
is_among pages p = is_member (eq_by_cmp page_cmp) pages p

-- the keys of other pages than these, in their order
abbrev pub keys_of_others : List PageId → List RankKey → List RankKey
keys_of_others pages keys = filter (λ k. not (is_among pages (ranked_page k))) keys

-- the keys over S of those of these pages that S names
abbrev pub named_keys : ReferenceSet → List PageId → List RankKey
named_keys S pages = filter_map (λ p. option_map (λ h. rank_key p (Some h)) (hist S p)) pages

-- the listed keys of the pages that stay, and the keys of the others as they are now
abbrev pub candidates : ReferenceSet → List PageId → List RankKey → List RankKey
candidates T changed keys = keys_of_others changed keys ++ named_keys T changed

-- Laws

-- references that are taken in, without a later horizon, raise only pages that they name
abbrev pub TakingInRaises : Type 0
TakingInRaises = (S T : ReferenceSet) → T.horizon ≤ S.horizon
    → RaisesOnly (map (λ r. r.page) T.given) S (S ∪ T)

-- after a raise, the hottest pages are the hottest of those listed before and of those that may
-- have risen: no other page needs to be looked at
abbrev pub CandidatesSuffice : Type 0
CandidatesSuffice = (S T : ReferenceSet) (n : ℕ) (changed : List PageId) → RaisesOnly changed S T
    → hottest_keys T n ≡ greatest_keys (candidates T changed (hottest_keys S n)) n

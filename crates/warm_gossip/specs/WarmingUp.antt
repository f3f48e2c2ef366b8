-- The progress of a node's warm-up, which is kept between its steps.
use Rattle.std.specs.Prelude.{◌≡◌, ◌⊎◌, ℕ, ◌+◌, ◌<◌, ◌++◌, List, [], length, map, Option, Some}
use Rattle.std.specs.Prelude.{None, IfSome}
use Rattle.warm_stamps.specs.declared.PageId.{PageId}
use Rattle.warm_history.specs.Histories.{HistoryView, references_of}
use Rattle.warm_rank.specs.declared.RankKey.{RankKey}
use Rattle.warm_rank.specs.Keys.{ranked_page}
use Rattle.warm_rank.specs.Ranking.{IsBefore}
use Rattle.warm_rank.specs.Relisting.{WereHottest, listed_page}
use Rattle.warm_pool.specs.View.{PoolView}
use Rattle.warm_gossip.specs.declared.warm_step.WarmUp.{WarmUp}
use Rattle.warm_gossip.specs.Step.{IsLoadable, nth_page}

-- none of the first `passed` of these pages could be loaded
abbrev pub IsPast : List PageId → ℕ → PoolView → Type 0
IsPast pages passed v = (j : ℕ) → j < passed → j < length pages → IsLoadable v (nth_page pages j)
    → ⊥

-- a list that is kept: these keys were those of the hottest pages, as many as there are frames, and
-- since then only these pages rose; the first `passed` pages are passed
pub record IsListed (h : HistoryView) (v : PoolView) (changed : List PageId) (keys : List RankKey)
    (passed : ℕ) : Type 0 where
  pub hottest : WereHottest h (length v.frames) changed keys
  pub past : IsPast (map ranked_page keys) passed v

-- if a list is kept, its keys were those of the hottest pages, and since then only the pages noted
-- as changed rose; its first `passed` pages are passed
abbrev pub IsWarming : HistoryView → PoolView → WarmUp → Type 0
IsWarming h v warm_up =
    IfSome warm_up.list (λ keys. IsListed h v warm_up.changed.items keys warm_up.passed)

-- these pages may have risen: they are noted, or the list is dropped
abbrev pub Notes : List PageId → WarmUp → WarmUp → Type 0
Notes pages old new = (new.list ≡ None) ⊎ ((new.list ≡ old.list) × (new.passed ≡ old.passed)
    × (new.changed.items ≡ old.changed.items ++ pages))

-- after a pin: the count of passed pages is 0, or no page was evicted and the count is unchanged
abbrev pub PassedAtPin : Option PageId → ℕ → ℕ → Type 0
PassedAtPin evicted old new = (new ≡ 0) ⊎ ((evicted ≡ None) × (new ≡ old))

-- no page was evicted, or one that leaves before this page: so it is not among the pages before
-- this one in the list
abbrev pub IsNoneBefore : HistoryView → PageId → Option PageId → Type 0
IsNoneBefore h p None = Unit {0}
IsNoneBefore h p (Some evicted) = IsBefore (references_of h) evicted p

-- the loaded page is passed too, unless the page that it evicted may be among those before it
abbrev pub PassedAtLoad : HistoryView → PageId → Option PageId → ℕ → ℕ → Type 0
PassedAtLoad h p evicted at new = (new ≡ 0) ⊎ ((new ≡ at + 1) × IsNoneBefore h p evicted)

-- the pinned page was the next one of the list, and is passed as after a load; or none is passed
abbrev pub PassedAtNext : HistoryView → List RankKey → ℕ → PageId → PageId → ℕ → Type 0
PassedAtNext h keys at p evicted new = (new ≡ 0) ⊎ ((at < length keys) × (listed_page keys at ≡ p)
    × PassedAtLoad h p (Some evicted) at new)

-- after a pin of a page whose bytes were given: a list in which pages may have risen does not say
-- in which order its pages leave
abbrev pub PassedAtFill : HistoryView → WarmUp → PageId → Option PageId → ℕ → Type 0
PassedAtFill h warm_up p None new = new ≡ warm_up.passed
PassedAtFill h warm_up p (Some evicted) new = IfSome warm_up.list (λ keys. (new ≡ 0)
    ⊎ ((warm_up.changed.items ≡ [])
    × PassedAtNext h keys warm_up.passed p evicted new))

-- Warm-up lists, made from a history.
use Rattle.std.specs.Prelude.{◌≡◌, ℕ, List, map}
use Rattle.warm_stamps.specs.declared.PageId.{PageId}
use Rattle.warm_history.specs.ReferenceSets.{ReferenceSet}
use Rattle.warm_history.specs.Histories.{HistoryView, entries_of, StandsFor}
use Rattle.warm_rank.specs.declared.RankKey.{RankKey}
use Rattle.warm_rank.specs.Keys.{entry_key}
use Rattle.warm_rank.specs.Ranking.{hottest_pages}

-- the n pages that are evicted last, whichever references the history stands for
abbrev pub IsWarmUp : HistoryView → ℕ → List PageId → Type 0
IsWarmUp h n ps = (S : ReferenceSet) → StandsFor h S → ps ≡ hottest_pages S n

-- the keys of a history's pages
abbrev pub entry_keys : HistoryView → List RankKey
entry_keys h = map entry_key (entries_of h)

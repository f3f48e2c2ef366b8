-- The key of a page, and the order of keys.
use Rattle.std.specs.Prelude.{Option, Some, None}
use Rattle.std.specs.Ordering.{ordering_then}
use Rattle.std.specs.declared.cmp.Ordering.{Ordering}
use Rattle.std.specs.declared.cmp.Ordering.TheVariants.{Less, Greater}
use Rattle.warm_stamps.specs.declared.PageId.{PageId}
use Rattle.warm_stamps.specs.Stamps.{stamp_cmp, page_cmp}
use Rattle.warm_history.specs.Entry.{Entry}
use Rattle.warm_history.specs.PageHist.{PageHist}
use Rattle.warm_history.specs.PageHist.TheVariants as page
use Rattle.warm_rank.specs.declared.RankKey.{RankKey}
use Rattle.warm_rank.specs.declared.RankKey.TheVariants.{Never, Once, Twice}

-- the key of a page with its latest stamps
abbrev pub rank_key : PageId → Option PageHist → RankKey
rank_key p None = Never p
rank_key p (Some (page.Once last)) = Once last p
rank_key p (Some (page.Twice two)) = Twice two.prev two.last p

-- the key of an entry's page
abbrev pub entry_key : Entry → RankKey
entry_key e = rank_key e.page (Some e.hist)

-- the page of a key
abbrev pub ranked_page : RankKey → PageId
ranked_page (Never p) = p
ranked_page (Once last p) = p
ranked_page (Twice prev last p) = p

-- keys without a stamp first, by page; then with one stamp, by it and the page; then with two, by
-- the older, the later and the page
abbrev pub key_cmp : RankKey → RankKey → Ordering
key_cmp (Never p) (Never q) = page_cmp p q
key_cmp (Never p) (Once b q) = Less
key_cmp (Never p) (Twice b' b q) = Less
key_cmp (Once a p) (Never q) = Greater
key_cmp (Once a p) (Once b q) = ordering_then (stamp_cmp a b) (page_cmp p q)
key_cmp (Once a p) (Twice b' b q) = Less
key_cmp (Twice a' a p) (Never q) = Greater
key_cmp (Twice a' a p) (Once b q) = Greater
key_cmp (Twice a' a p) (Twice b' b q) =
    ordering_then (stamp_cmp a' b') (ordering_then (stamp_cmp a b) (page_cmp p q))

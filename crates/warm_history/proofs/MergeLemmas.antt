-- Whether pages rise.
use Rattle.std.proofs.Common.{◌≡◌, List, ◌∷◌}
use Rattle.std.specs.declared.cmp.Ordering.TheVariants.{Less}
use Rattle.warm_stamps.specs.Stamps.{page_cmp}
use Rattle.warm_maps.specs.declared.hist.Entry.{Entry}
use Rattle.warm_history.specs.Histories.{PagesAscend}
use Rattle.warm_history.proofs.ListHistoryLemmas.{above_less}

-- a first entry below the next one leaves the question to the later ones
pub rises_on : (e next : Entry) (later : List Entry) → PagesAscend (next ∷ later)
    → page_cmp e.page next.page ≡ Less → PagesAscend (e ∷ next ∷ later)
rises_on e next later rising less = ((less, above_less e.page next.page later less rising.0), rising)

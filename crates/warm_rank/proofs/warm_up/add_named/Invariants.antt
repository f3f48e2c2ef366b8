use Rattle.std.proofs.Common.{◌≡◌, ◌++◌, drop}
use Rattle.warm_history.specs.Histories.{references_of}
use Rattle.warm_rank.specs.Relisting.{named_keys}
use Rattle.warm_rank.proofs.warm_up.add_named.Given as goal

-- the keys so far and those of the pages that are left
abbrev pub invariant-loop-page : goal.invariant-loop-page
invariant-loop-page l =
    l.keys.items ++ named_keys (references_of l.history) (drop l.page-index l.pages)
    ≡ l.fn.keys.items ++ named_keys (references_of l.history) l.pages

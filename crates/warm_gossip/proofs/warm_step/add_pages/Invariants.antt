use Rattle.std.proofs.Common.{◌≡◌, ◌++◌, drop, map}
use Rattle.warm_gossip.proofs.warm_step.add_pages.Given as goal

-- the pages so far and those of the items that are left
abbrev pub invariant-loop-item : goal.invariant-loop-item
invariant-loop-item g l =
    l.changed.items ++ map g.T.NamesPage.named (drop l.item-index l.items)
    ≡ l.fn.changed.items ++ map g.T.NamesPage.named l.items

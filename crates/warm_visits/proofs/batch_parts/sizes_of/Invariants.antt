use Rattle.std.proofs.Common.{take}
use Rattle.warm_visits.specs.Parts.{AreSizes}
use Rattle.warm_visits.proofs.batch_parts.sizes_of.Given as goal

-- the sizes of the items so far
abbrev pub invariant-loop-item : goal.invariant-loop-item
invariant-loop-item g l =
    AreSizes (λ item. g.T.NamesPage.named item) l.count (take l.item-index l.items) l.sizes.items

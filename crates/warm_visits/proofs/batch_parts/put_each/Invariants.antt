use Rattle.warm_visits.proofs.PartSorts.{IsSorting}
use Rattle.warm_visits.proofs.batch_parts.put_each.Given as goal

-- the items so far are in their places
abbrev pub invariant-loop-item : goal.invariant-loop-item
invariant-loop-item g l =
    IsSorting (λ item. g.T.NamesPage.named item) l.count l.item-index l.items l.list.items l.next.items

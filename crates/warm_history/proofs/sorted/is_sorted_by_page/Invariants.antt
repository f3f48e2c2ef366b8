use Rattle.std.proofs.Common.{◌∷◌, length}
use Rattle.warm_history.specs.Histories.{PagesAscend}
use Rattle.warm_history.proofs.sorted.is_sorted_by_page.Given as goal

-- all of them rise exactly if the last one seen and those that are left do
abbrev pub invariant-loop-next : goal.invariant-loop-next
invariant-loop-next l = record {
  enough : PagesAscend (l.last ∷ l.rest) → PagesAscend l.fn.entries;
  needed : PagesAscend l.fn.entries → PagesAscend (l.last ∷ l.rest);
}

abbrev pub decreases-loop-next : goal.decreases-loop-next
decreases-loop-next l = length l.rest

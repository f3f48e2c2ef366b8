use Rattle.std.proofs.Common.{◌∷◌, sym, subst}
use Rattle.warm_history.specs.Histories.{PagesAscend}
use Rattle.warm_history.proofs.MergeLemmas.{rises_on}
use Rattle.warm_history.proofs.sorted.is_sorted_by_page.Goals as goal

-- the last page seen is below the next
pub loop-next-preserved : goal.loop-next-preserved
loop-next-preserved c =
    let last = c.loop-next.last.now in
    let next = c.in-Some-split_first.next.now in
    let later = c.in-Some-split_first.later.now in
    let is = c.in-Some-split_first.ensures.cases.0 in
    record {
      enough = λ rising. c.loop-next.invariant.enough (subst (λ rest. PagesAscend (last ∷ rest)) (sym is)
          (rises_on last next later rising (sym c.in-Less.ensures)));
      needed = λ rising. (subst (λ rest. PagesAscend (last ∷ rest)) is (c.loop-next.invariant.needed rising)).1;
    }

use Rattle.std.proofs.Common.{subst}
use Rattle.std.specs.List.Sorted.{IsPermutation}
use Rattle.warm_rank.proofs.warm_up.sorted_pages.Goals as goal

pub returns-clause-same_pages : goal.returns-clause-same_pages
returns-clause-same_pages c = subst (λ pages. IsPermutation pages c.sort_unstable.new.self.items) c.in_ok-sorted.ensures.items c.sort_unstable.ensures.permutation

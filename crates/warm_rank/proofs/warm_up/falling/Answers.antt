use Rattle.std.proofs.Common.{◌∙◌, ap, subst, take}
use Rattle.std.specs.List.Sorted.{IsSorted}
use Rattle.std.proofs.lemmas.List.Filters.{dedup_is}
use Rattle.warm_rank.proofs.FallingLemmas.{derived_ties, falling_is}
use Rattle.warm_rank.proofs.KeyLemmas.{derived_order}
use Rattle.warm_rank.proofs.warm_up.falling.Goals as goal

pub returns : goal.returns
returns c =
    let sorted = c.sort.new.self.items in
    let once = c.dedup.new.self.items in
    c.truncate.ensures.items
    ∙ ap (take c.args.n) (c.reverse.ensures.items ∙ falling_is _ derived_ties c.args.keys.items sorted once c.sort.ensures.permutation (subst (λ cmp. IsSorted cmp sorted) derived_order c.in_ok-sort.ensures.sorted) (dedup_is _ sorted once c.dedup.ensures.filtered))

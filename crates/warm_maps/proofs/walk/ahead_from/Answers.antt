use Rattle.std.proofs.Common.{◌≤◌, ◌∙◌, sym, subst}
use Rattle.std.specs.List.{AllByRecursion}
use Rattle.warm_maps.specs.MapPairs.{MapPairs}
use Rattle.warm_maps.specs.Walks.{HoldsFrom}
use Rattle.warm_maps.proofs.WalkLemmas.{after_next, begins, begins_on}
use Rattle.warm_maps.proofs.walk.ahead_from.Goals as goal

pub returns-clause-holds : goal.returns-clause-holds
returns-clause-holds c = subst (λ (t : MapPairs). HoldsFrom c.args.key t c.args.map.now.entries)
    (sym (after_next c.next-first.result _ _ c.next-first.ensures.steps ∙ c.range-later.ensures.between tt))
    (begins c.args.key c.args.map.now.entries c.requires)

pub returns-clause-on : goal.returns-clause-on
returns-clause-on c = subst (AllByRecursion (λ e. c.args.key ≤ e.0))
    (sym (after_next c.next-first.result _ _ c.next-first.ensures.steps ∙ c.range-later.ensures.between tt))
    (begins_on c.args.key c.args.map.now.entries)

use Rattle.std.proofs.Common.{[], ap, ◌∙◌}
use Rattle.warm_history.specs.ReferenceSets.{with_horizon}
use Rattle.warm_history.specs.Histories.{HistoryView, references_of, history}
use Rattle.warm_history.specs.maps.KeptPairs.{kept}
use Rattle.warm_history.proofs.JoinLemmas.{history_first}
use Rattle.warm_history.proofs.RaiseLemmas.{whole_of, raised_to, none_of}
use Rattle.warm_history.proofs.history.History.raise.Goals as goal

raised : goal.returns-clause-exact
raised c =
    let old = c.self.inside.maps in
    raised_to c.self.inside.horizon c.args.time c.raise-self-inside.result (kept old) (kept c.raise-self-inside.new.maps) (whole_of c.self.inside.horizon old c.self.invariant.0 c.self.invariant.1) c.raise-self-inside.ensures.later c.raise-self-inside.ensures.cut
    ∙ ap (λ (h : HistoryView). history (with_horizon c.args.time (references_of h))) c.self.view_is

pub invariant_of-self : goal.invariant_of-self
invariant_of-self c = (c.raise-self-inside.ensures.whole, none_of c.raise-self-inside.result (kept c.raise-self-inside.new.maps) _ (raised c))

pub returns-clause-raised : goal.returns-clause-raised
returns-clause-raised c S stands = raised c ∙ ap (λ (h : HistoryView). history (with_horizon c.args.time (references_of h))) stands ∙ history_first S (record { horizon = c.args.time; given = [] })

pub returns-clause-exact : goal.returns-clause-exact
returns-clause-exact = raised

use Rattle.std.proofs.Common.{ap, subst, ◌∙◌}
use Rattle.warm_history.specs.Histories.{HistoryView, IsHistory}
use Rattle.warm_history.proofs.HistoryLemmas.{horizon-history}
use Rattle.warm_history.proofs.RaiseLemmas.{whole_of}
use Rattle.warm_history.proofs.history.History.horizon.Goals as goal

pub returns-clause-stands : goal.returns-clause-stands
returns-clause-stands c S stands = ap (λ (h : HistoryView). h.horizon) (c.self.view_is ∙ stands) ∙ horizon-history S

pub returns-clause-whole : goal.returns-clause-whole
returns-clause-whole c = subst IsHistory c.self.view_is (whole_of c.self.inside.horizon c.self.inside.maps c.self.invariant.0 c.self.invariant.1)

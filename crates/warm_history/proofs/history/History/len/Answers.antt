use Rattle.std.proofs.Common.{length, ap, subst, ◌∙◌}
use Rattle.warm_history.specs.Histories.{IsHistory, entries_of}
use Rattle.warm_history.proofs.maps.KeptPairLemmas.{length_kept}
use Rattle.warm_history.proofs.RaiseLemmas.{whole_of}
use Rattle.warm_history.proofs.history.History.len.Goals as goal

pub returns-clause-count : goal.returns-clause-count
returns-clause-count c = c.len.ensures ∙ length_kept c.self.inside.maps c.self.invariant.0 ∙ ap (λ h. length (entries_of h)) c.self.view_is

pub returns-clause-whole : goal.returns-clause-whole
returns-clause-whole c = subst IsHistory c.self.view_is (whole_of c.self.inside.horizon c.self.inside.maps c.self.invariant.0 c.self.invariant.1)

use Rattle.std.proofs.Common.{sym, ap, subst, ◌∙◌}
use Rattle.warm_history.specs.maps.KeptPairs.{kept}
use Rattle.warm_maps.specs.MapPairs.{AreKept}
use Rattle.warm_history.proofs.KeptLemmas.{entries_recent}
use Rattle.warm_history.proofs.maps.KeptCuts.{cut_kept}
use Rattle.warm_maps.proofs.CutLemmas.{kept_left}
use Rattle.warm_history.proofs.maps.take_in.raise.Goals as goal

pub returns-then-horizon-time-clause-cut : goal.returns-then-horizon-time-clause-cut
returns-then-horizon-time-clause-cut c = ap kept c.forget.ensures ∙ cut_kept c.args.time c.args.maps.now c.requires.kept

pub returns-then-horizon-time-clause-whole : goal.returns-then-horizon-time-clause-whole
returns-then-horizon-time-clause-whole c = subst AreKept (sym c.forget.ensures) (kept_left c.args.time c.args.maps.now c.requires.kept)

pub returns-clause-cut : goal.returns-clause-cut
returns-clause-cut c = sym (entries_recent c.args.horizon (kept c.args.maps.now) c.requires.recent)

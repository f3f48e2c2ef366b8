use Rattle.std.proofs.Common.{◌∙◌}
use Rattle.std.proofs.lemmas.Iterator.Consumers.{YieldsList-from_first}
use Rattle.warm_history.specs.ListHistories.{list_references_of}
use Rattle.warm_maps.specs.MapPairs.{as_entries}
use Rattle.warm_history.specs.maps.KeptPairs.{kept}
use Rattle.warm_history.proofs.maps.JoinTakes.{marks_all, takes_all}
use Rattle.warm_history.proofs.maps.RecentLemmas.{references_by_recent, takes_yielded}
use Rattle.warm_history.proofs.maps.take_in.take_pairs.Goals as goal

pub returns-then-is_near-clause-exact : goal.returns-then-is_near-clause-exact
returns-then-is_near-clause-exact c = (takes_all c.args.horizon c.args.maps.now c.args.more.now c.join.new.self c.requires.here c.requires.there c.in_ok-changed.ensures.ok).1

pub returns-then-is_near-clause-changed : goal.returns-then-is_near-clause-changed
returns-then-is_near-clause-changed c = marks_all c.args.maps.now c.join.new.self c.in_ok-changed.changed c.requires.here (takes_all c.args.horizon c.args.maps.now c.args.more.now c.join.new.self c.requires.here c.requires.there c.in_ok-changed.ensures.ok).0 c.in_ok-changed.ensures.changed

pub returns-then-is_near-clause-whole : goal.returns-then-is_near-clause-whole
returns-then-is_near-clause-whole c = (takes_all c.args.horizon c.args.maps.now c.args.more.now c.join.new.self c.requires.here c.requires.there c.in_ok-changed.ensures.ok).0

pub returns-in-Ok-clause-exact : goal.returns-in-Ok-clause-exact
returns-in-Ok-clause-exact c =
    takes_yielded c.args.horizon c.args.maps.now c.take_each.new.maps (as_entries c.args.more.now) (YieldsList-from_first (λ x. x) (λ left. left) (as_entries c.args.more.now) c.each_entry.ensures) c.in-Ok.ensures.exact
    ∙ references_by_recent c.args.horizon (list_references_of (kept c.args.maps.now)) c.args.more.now c.requires.there

use Rattle.std.proofs.lemmas.Iterator.{YieldsList-from_slice}
use Rattle.std.proofs.lemmas.Iterator.Consumers.{YieldsList-from_copied}
use Rattle.warm_history.proofs.maps.RecentLemmas.{takes_yielded}
use Rattle.warm_history.proofs.maps.take_in.take_entries.Goals as goal

pub returns-in-Ok-clause-exact : goal.returns-in-Ok-clause-exact
returns-in-Ok-clause-exact c = takes_yielded c.args.horizon c.args.maps.now c.take_each.new.maps c.args.more.now (YieldsList-from_copied (YieldsList-from_slice c.args.more.now cc)) c.in-Ok.ensures.exact

use Rattle.std.proofs.Common.{arith}
use Rattle.warm_maps.specs.MapKeys.{key_of_page}
use Rattle.warm_history.specs.maps.KeptPairs.{kept}
use Rattle.warm_history.proofs.ChangeLemmas.{marks_empty}
use Rattle.warm_maps.proofs.NearKeys.{page_back}
use Rattle.warm_history.proofs.maps.RecentLemmas.{takes_none, takes_some}
use Rattle.warm_history.proofs.maps.take_in.take_recent.Goals as goal

pub returns-in_default-clause-exact : goal.returns-in_default-clause-exact
returns-in_default-clause-exact c = takes_none c.args.horizon c.args.maps.now (key_of_page c.args.page) c.args.more c.requires c.in_default.ensures.stamps

pub returns-in_default-clause-changed : goal.returns-in_default-clause-changed
returns-in_default-clause-changed c = marks_empty (kept c.args.maps.now) c.new.result c.new.ensures

pub returns-clause-exact : goal.returns-clause-exact
returns-clause-exact c = takes_some c.args.horizon c.args.maps.now c.take.new.maps (key_of_page c.args.page) c.args.more c.in-Some.recent c.in-Some.ensures.stamps c.in_ok-taken.ensures.exact

pub returns-in_default-clause-back : goal.returns-in_default-clause-back
returns-in_default-clause-back c = page_back c.args.page (omega arith) (omega arith)

pub returns-clause-back : goal.returns-clause-back
returns-clause-back c = page_back c.args.page (omega arith) (omega arith)

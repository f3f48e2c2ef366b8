use Rattle.std.proofs.Common.{◌∙◌}
use Rattle.std.proofs.lemmas.Iterator.Consumers.{nth_from_yields_List, YieldsList-from_first}
use Rattle.warm_history.specs.Histories.{entries_of}
use Rattle.warm_maps.proofs.MapPairLemmas.{as_it_is}
use Rattle.warm_history.proofs.history.History.at.Goals as goal

pub returns : goal.returns
returns c = as_it_is c.nth.result ∙ nth_from_yields_List c.nth.result c.nth.new.self c.args.i c.nth.ensures.ran (YieldsList-from_first (λ x. x) (λ s. s) (entries_of c.args.self.now) c.iter.ensures)

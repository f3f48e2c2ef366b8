use Rattle.std.proofs.Common.{◌∙◌}
use Rattle.warm_history.specs.Histories.{entries_of}
use Rattle.warm_digest.proofs.CachedLemmas.{all_renewed}
use Rattle.warm_digest.proofs.digests.Goals as goal

pub returns : goal.returns
returns c = c.table.ensures.value ∙ all_renewed c.all.result (entries_of c.args.history.now) _ c.all.ensures c.table.ensures.count c.in_ok-renew.ensures.wanted

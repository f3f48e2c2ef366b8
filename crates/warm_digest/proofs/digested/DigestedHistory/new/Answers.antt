use Rattle.warm_digest.proofs.CachedLemmas.{nothing_kept}
use Rattle.warm_digest.proofs.digested.DigestedHistory.new.Goals as goal

pub invariant_of-result : goal.invariant_of-result
invariant_of-result c = nothing_kept c.new-3.result c.new.result _ c.new-2.ensures c.new.ensures.empty

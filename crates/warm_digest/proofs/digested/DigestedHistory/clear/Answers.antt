use Rattle.warm_digest.proofs.CachedLemmas.{nothing_kept}
use Rattle.warm_digest.proofs.digested.DigestedHistory.clear.Goals as goal

pub invariant_of-self : goal.invariant_of-self
invariant_of-self c = nothing_kept c.new-self-inside-2.result c.new.result _ c.new-self-inside.ensures c.new.ensures.empty

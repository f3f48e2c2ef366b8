use Rattle.std.proofs.Common.{subst, arith}
use Rattle.warm_history.specs.Histories.{HistoryView, entries_of}
use Rattle.warm_history.proofs.JoinLemmas.{raised_to_no_later}
use Rattle.warm_digest.specs.CachedDigests.{HasDigestsOf}
use Rattle.warm_digest.proofs.cached.Digests.renew.Goals as goal

-- nothing is older than time 0
pub returns-clause-wanted : goal.returns-clause-wanted
returns-clause-wanted c =
    subst (λ (h : HistoryView). HasDigestsOf c.args.buckets (entries_of h) c.in_ok-self-inside.field-0) (raised_to_no_later c.args.history.now 0 c.prove_is_history.ensures (omega arith)) c.in_ok-self-inside.ensures.wanted

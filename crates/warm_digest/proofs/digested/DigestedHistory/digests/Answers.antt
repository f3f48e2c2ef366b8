use Rattle.std.proofs.Common.{◌∙◌, ap}
use Rattle.warm_history.specs.Histories.{entries_of}
use Rattle.warm_digest.specs.BucketDigests.{digests_of}
use Rattle.warm_digest.specs.CachedDigests.{DigestedView}
use Rattle.warm_digest.proofs.CachedLemmas.{all_right}
use Rattle.warm_digest.proofs.digested.DigestedHistory.digests.Goals as goal

pub returns-clause-table : goal.returns-clause-table
returns-clause-table c =
    c.table.ensures.value
    ∙ all_right c.self.inside.changed (entries_of c.self.inside.history) c.self.inside.digests _ c.table.ensures.count c.self.invariant c.in_ok-renew.ensures.wanted c.in_ok-renew.ensures.others
    ∙ ap (λ (v : DigestedView). digests_of (entries_of v.history)) c.self.view_is

use Rattle.std.proofs.Common.{ap, length}
use Rattle.warm_replica.specs.Replied.{replies_of}
use Rattle.warm_replica.proofs.replies.Replies.with_capacity.Goals as goal

pub invariant_of-result : goal.invariant_of-result
invariant_of-result c = ap (λ rs. length (replies_of rs 0)) c.in_ok-runs.ensures.items

pub returns-clause-empty : goal.returns-clause-empty
returns-clause-empty c = ap (λ rs. replies_of rs 0) c.in_ok-runs.ensures.items

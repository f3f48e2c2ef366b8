use Rattle.std.proofs.Common.{sym, ◌∙◌}
use Rattle.warm_stamps.proofs.BucketLemmas.{taken, passed}
use Rattle.warm_stamps.proofs.buckets.next_bucket.Goals as goal

pub returns-then-contains : goal.returns-then-contains
returns-then-contains c = sym c.loop-next.invariant ∙ taken c.args.set c.loop-next.next c.loop-next-test.true (sym c.contains.ensures ∙ c.if-contains.true)

pub loop-next-preserved : goal.loop-next-preserved
loop-next-preserved c = sym (passed c.args.set c.loop-next.next c.loop-next-test.true (sym c.contains.ensures ∙ c.if-contains.false)) ∙ c.loop-next.invariant

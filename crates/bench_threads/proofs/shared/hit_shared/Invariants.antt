use Rattle.warm_concurrent.specs.Attached.{AreOf}
use Rattle.bench_threads.proofs.shared.hit_shared.Given as goal

-- the passes are of the turns
abbrev pub invariant-loop : goal.invariant-loop
invariant-loop g l = AreOf l.shared l.attached.passes

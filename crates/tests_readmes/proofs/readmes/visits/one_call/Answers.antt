use Rattle.std.proofs.Common.{arith, refl}
use Rattle.std.specs.Int.Count.{ones}
use Rattle.tests_readmes.proofs.readmes.visits.one_call.Goals as goal

-- there can be two shards
pub absorb-requires : goal.absorb-requires
unfolding ones
absorb-requires g c = (refl, omega arith)

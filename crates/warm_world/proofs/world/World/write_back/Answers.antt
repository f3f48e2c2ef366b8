use Rattle.std.proofs.Common.{refl}
use Rattle.warm_world.proofs.ReplicaWriteBackLemmas.{fails_if, others_same, same_if, settled_if}
use Rattle.warm_world.proofs.world.World.write_back.Goals as goal

pub returns-clause-same : goal.returns-clause-same
returns-clause-same g c = same_if _ _ _ _ _ _ _ c.requires.there c.index_mut.ensures.value refl c.write_back.ensures.same

pub returns-clause-refused : goal.returns-clause-refused
returns-clause-refused g c = fails_if _ _ _ _ _ _ _ c.requires.there c.index_mut.ensures.value refl c.write_back.ensures.refused

pub returns-clause-settled : goal.returns-clause-settled
returns-clause-settled g c = λ before. settled_if _ _ _ _ _ c.requires.there before c.write_back.ensures.settled

pub returns-clause-others : goal.returns-clause-others
returns-clause-others g c = others_same _ _ _ _

use Rattle.std.proofs.Common.{◌≡◌, length}
use Rattle.warm_world.specs.Views.{AreSameFrom, IsSettledBefore, world_view}
use Rattle.warm_world.proofs.world.World.finish.Given as goal

-- nothing that the world shows has changed so far
abbrev pub invariant-loop-k : goal.invariant-loop-k
invariant-loop-k g l = record {
  same : world_view l.self ≡ world_view l.fn.self;
  settled : IsSettledBefore l.k l.self;
  later : AreSameFrom l.k l.fn.self l.self;
  many : length l.self.replicas.items ≡ length l.fn.self.replicas.items;
}

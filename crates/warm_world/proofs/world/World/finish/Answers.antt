use Rattle.warm_world.specs.Opening.{StopsInOrder}
use Rattle.warm_world.specs.WorldStands.{CountsFailure}
use Rattle.warm_world.specs.Views.{world_view}
use Rattle.warm_world.proofs.ReplicaWriteBackLemmas.{fails_since, fails_stand, stops_in_order}
use Rattle.warm_world.proofs.ReplicaBufferLemmas.{passed_on}
use Rattle.warm_world.proofs.world.World.finish.Goals as goal

pub returns-in_err-write_back-clause-refused : goal.returns-in_err-write_back-clause-refused
returns-in_err-write_back-clause-refused g c =
    passed_on c.from_residual.result c.in_err-write_back.field-0.0 _ c.from_residual.ensures.1 (fails_since _ _ _ c.loop-k.k c.in_err-write_back.field-0.0 c.loop-k.invariant.same c.in_err-write_back.ensures.refused)

pub returns-in_err-write_back-clause-stops : goal.returns-in_err-write_back-clause-stops
returns-in_err-write_back-clause-stops g c =
    passed_on c.from_residual.result c.in_err-write_back.field-0.0 (λ _. StopsInOrder c.args.self.now c.write_back.new.self) c.from_residual.ensures.1
    (stops_in_order c.args.self.now c.loop-k.self c.write_back.new.self c.loop-k.k c.loop-k.invariant.same c.loop-k.invariant.settled c.loop-k.invariant.later c.write_back.ensures.others c.in_err-write_back.ensures.refused.1)

pub returns-in_err-write_back-clause-stands : goal.returns-in_err-write_back-clause-stands
returns-in_err-write_back-clause-stands g c =
    let old = world_view c.args.self.now in
    let new = world_view c.write_back.new.self in
    passed_on c.from_residual.result c.in_err-write_back.field-0.0 (λ _. CountsFailure old new) c.from_residual.ensures.1
    (fails_stand old new (fails_since old (world_view c.loop-k.self) new c.loop-k.k c.in_err-write_back.field-0.0 c.loop-k.invariant.same c.in_err-write_back.ensures.refused).1)

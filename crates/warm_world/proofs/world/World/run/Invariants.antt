use Rattle.std.proofs.Common.{◌≡◌, ◌≤◌, ◌++◌, length, vec_capacity}
use Rattle.std.specs.Vec.Iter.{into_iter_items}
use Rattle.warm_world.specs.Views.{world_view}
use Rattle.warm_world.specs.States.{ModelState}
use Rattle.warm_world.specs.WorldStands.{WorldStands, Ran}
use Rattle.warm_world.proofs.world.World.run.Given as goal

-- the events so far led to what the world stands for, and there is capacity for all the answers
abbrev pub invariant-loop-event : goal.invariant-loop-event
invariant-loop-event g l = record {
  ran : (m : ModelState) → WorldStands (world_view l.fn.self) m
      → Ran m l.yielded l.answers.items (world_view l.self);
  rest : l.yielded ++ into_iter_items l.event-iterator ≡ l.fn.events.items;
  count : length l.answers.items ≡ length l.yielded;
  capacity : length l.fn.events.items ≤ vec_capacity l.answers;
}

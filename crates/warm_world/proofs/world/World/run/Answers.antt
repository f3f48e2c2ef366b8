use Rattle.std.proofs.Common.{◌++◌, ◌∷◌, [], length, append_assoc, ap, sym, ◌∙◌, arith}
use Rattle.std.proofs.lemmas.List.{length-append}
use Rattle.warm_world.proofs.RunLemmas.{ran_more, ran_none}
use Rattle.warm_world.proofs.world.World.run.Goals as goal

pub loop-event-init : goal.loop-event-init
loop-event-init g c = record {
  ran = λ m st. rw c.in-Ok.ensures.items (ran_none m _ st);
  rest = c.into_iter-event-iterator.ensures.into_iter_gives.0;
  count = ap length c.in-Ok.ensures.items;
  capacity = omega (arith, c.in-Ok.ensures.exact, c.len.ensures, c.args.events.ok.0);
}

pub loop-event-preserved : goal.loop-event-preserved
loop-event-preserved g c =
    let so_far = c.loop-event.yielded in
    let event = c.in-Some.event in
    record {
      ran = λ m st. rw c.push_reserved.ensures.items
          (ran_more m so_far c.loop-event.answers.items _ _ event c.step-answer.result (c.loop-event.invariant.ran m st) c.step-answer.ensures);
      rest = append_assoc so_far (event ∷ []) c.next.new.self.rest.items ∙ (ap (λ r. so_far ++ r) (sym c.in-Some.ensures.steps.0) ∙ c.loop-event.invariant.rest);
      count = ap length c.push_reserved.ensures.items ∙ omega (arith, length-append c.loop-event.answers.items (c.step-answer.result ∷ []), length-append so_far (event ∷ []), c.loop-event.invariant.count);
      capacity = omega (arith, c.push_reserved.ensures.capacity, c.loop-event.invariant.capacity);
    }

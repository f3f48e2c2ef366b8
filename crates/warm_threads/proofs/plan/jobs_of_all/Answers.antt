use Rattle.std.proofs.Common.{◌++◌, ◌∷◌, [], append_assoc, ap, sym, ◌∙◌}
use Rattle.warm_replica.specs.Pairs.{Pairs}
use Rattle.warm_threads.specs.Plans.{DoesPlan}
use Rattle.warm_threads.proofs.NumberLemmas.{pairs_more}
use Rattle.warm_threads.proofs.plan.jobs_of_all.Goals as goal

pub loop-list-preserved : goal.loop-list-preserved
loop-list-preserved c =
    let so_far = c.loop-list.yielded in
    record {
      rest = append_assoc so_far (c.in-Some.list ∷ []) c.next.new.self.rest.items ∙ (ap (λ r. so_far ++ r) (sym c.in-Some.ensures.steps.0) ∙ c.loop-list.invariant.rest);
      pairs = rw c.in_ok-push.ensures.items (pairs_more (λ ps js. Pairs (DoesPlan c.args.setup.buffer) ps.items js.items) so_far c.loop-list.all.items c.in-Some.list c.in_ok-jobs_of.field-0 c.loop-list.invariant.pairs
          (rw c.buffer.ensures.value at c.in_ok-jobs_of.ensures));
    }

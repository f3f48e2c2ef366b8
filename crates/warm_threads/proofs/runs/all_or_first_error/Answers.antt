use Rattle.std.proofs.Common.{◌≡◌, ◌∷◌, [], ◌++◌, Ok, append_assoc, ap, sym, ◌∙◌}
use Rattle.warm_replica.proofs.PairLemmas.{pairs_more}
use Rattle.warm_threads.proofs.runs.all_or_first_error.Goals as goal

pub loop-result-preserved : goal.loop-result-preserved
loop-result-preserved g c =
    let so_far = c.loop-result.yielded in
    let one = c.in-Some-result.result in
    record {
      same = rw c.in_ok-push.ensures.items
          (pairs_more (λ r t. r ≡ Ok t) so_far c.loop-result.all.items one c.in_ok-result.field-0 c.loop-result.invariant.same c.in_ok-result.was);
      rest = append_assoc so_far (one ∷ []) _ ∙ (ap (λ r. so_far ++ r) (sym c.in-Some-result.ensures.steps.0) ∙ c.loop-result.invariant.rest);
    }

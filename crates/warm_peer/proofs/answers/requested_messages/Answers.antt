use Rattle.std.proofs.Common.{◌++◌, ◌∷◌, [], append_assoc, ap, sym, ◌∙◌}
use Rattle.warm_history.specs.Losses.{raised}
use Rattle.warm_peer.proofs.AnswerLemmas.{all_requested, one_bucket_more}
use Rattle.warm_peer.proofs.answers.requested_messages.Goals as goal

pub loop-bucket-preserved : goal.loop-bucket-preserved
loop-bucket-preserved c =
    let so_far = c.loop-bucket.yielded in
    let bucket = c.in-Some.bucket in
    record {
      rest = append_assoc so_far (bucket ∷ []) c.next.new.self ∙ (ap (λ r. so_far ++ r) (sym c.in-Some.ensures.steps) ∙ c.loop-bucket.invariant.rest);
      so_far = rw (c.in_ok-push_bucket.ensures, c.loop-bucket.invariant.so_far) (one_bucket_more c.args.id (raised c.args.horizon c.args.history.now) so_far bucket);
    }

pub returns : goal.returns
returns c =
    c.loop-bucket.invariant.so_far
    ∙ all_requested c.args.id c.args.request (raised c.args.horizon c.args.history.now) c.loop-bucket.yielded c.loop-bucket.bucket-iterator c.loop-bucket.invariant.rest c.in-None.ensures.steps.0

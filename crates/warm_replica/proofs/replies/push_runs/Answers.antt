use Rattle.std.proofs.Common.{◌++◌, ◌∷◌, [], ◌∙◌, ap, sym, length, replicate, vec_capacity, append_assoc, arith}
use Rattle.std.proofs.lemmas.List.{length-append, length-replicate}
use Rattle.warm_replica.specs.declared.job.StepReply.TheVariants.{Touched}
use Rattle.warm_replica.proofs.ReplyLemmas.{ended_more, run_fits}
use Rattle.warm_replica.proofs.replies.push_runs.Goals as goal

pub loop-run-init : goal.loop-run-init
loop-run-init c = record {
  items = c.requires.empty;
  rest = c.into_iter-run-iterator.ensures.into_iter_gives.0;
  capacity = c.requires.capacity;
}

pub push_touched-requires : goal.push_touched-requires
push_touched-requires c =
    let before = c.loop-run.invariant in
    let is = ap (λ r. c.loop-run.yielded ++ r) (sym c.in-Some.ensures.steps.0) ∙ before.rest in
    let fits = run_fits c.args.runs.items c.loop-run.yielded _ c.in-Some.run' c.args.touched (vec_capacity c.loop-run.all) is before.capacity in
    record { capacity = omega (arith, fits, ap length before.items) }

pub push_reserved-requires : goal.push_reserved-requires
push_reserved-requires c =
    let before = c.loop-run.invariant in
    let more = c.push_touched.ensures in
    let is = ap (λ r. c.loop-run.yielded ++ r) (sym c.in-Some.ensures.steps.0) ∙ before.rest in
    let fits = run_fits c.args.runs.items c.loop-run.yielded _ c.in-Some.run' c.args.touched (vec_capacity c.loop-run.all) is before.capacity in
    omega (
      arith,
      fits,
      ap length before.items,
      ap length more.items,
      length-append c.loop-run.all.items (replicate c.in-Some.run'.touched Touched),
      length-replicate c.in-Some.run'.touched Touched,
      more.capacity,
      c.push_touched.new.all.ok.0,
    )

pub loop-run-preserved : goal.loop-run-preserved
loop-run-preserved c =
    let so_far = c.loop-run.yielded in
    let one = c.in-Some.run' in
    let before = c.loop-run.invariant in
    let more = c.push_touched.ensures in
    record {
      items = c.push_reserved.ensures.items
          ∙ (ap (λ l. l ++ one.reply ∷ []) (more.items ∙ ap (λ l. l ++ replicate one.touched Touched) before.items) ∙ sym (ended_more so_far one));
      rest = append_assoc so_far (one ∷ []) _ ∙ (ap (λ r. so_far ++ r) (sym c.in-Some.ensures.steps.0) ∙ before.rest);
      capacity = omega (arith, c.push_reserved.ensures.capacity, more.capacity, before.capacity);
    }

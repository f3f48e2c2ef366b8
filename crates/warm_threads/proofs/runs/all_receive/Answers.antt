use Rattle.std.proofs.Common.{◌≡◌, length, arith}
use Rattle.warm_threads.proofs.PairLemmas.{pairs_by_place, values_if_ok}
use Rattle.warm_threads.proofs.runs.all_receive.Goals as goal

pub returns : goal.returns
returns g c =
    let same : length c.in_ok-done.done.items ≡ length c.args.runs.items = omega (arith, c.in_ok-done.ensures.len) in
    values_if_ok _ c.args.runs.items c.in_ok-done.done.items c.all_or_first_error.result
    (pairs_by_place _ c.args.runs.items c.in_ok-done.done.items same (λ k d low. let made = (c.in_ok-done.ensures.each k d low).1 in (made.job, made.job_is, made.call.met)))
    c.all_or_first_error.ensures.whole

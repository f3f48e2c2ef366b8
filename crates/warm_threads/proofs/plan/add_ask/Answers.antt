use Rattle.std.proofs.Common.{◌≡◌, ◌-◌, ◌<◌, length, arith}
use Rattle.warm_threads.proofs.PlanLemmas.{has_numbers, plans_more}
use Rattle.warm_threads.proofs.plan.add_ask.Goals as goal

pub returns-clause-adds : goal.returns-clause-adds
returns-clause-adds c = λ before are.
    let a = c.args.ask in
    let plans = c.args.plans.now.items in
    let list = c.index_mut.result.now in
    let numbers = has_numbers c.args.setup a.replica a.worker c.requires.there in
    let low : a.replica - 1 < length plans = omega (arith, numbers.0, numbers.1, c.requires.shape.replicas) in
    let many : length list.items ≡ c.args.setup.workers = rw (← c.index_mut.ensures.value) at (c.requires.shape.workers (a.replica - 1) list low) in
    plans_more c.args.setup before a plans (a.replica - 1) (a.worker - 1) list c.add_to.new.list (omega (arith, numbers.0)) (omega (arith, numbers.2)) low c.index_mut.ensures.value
    (omega (arith, numbers.2, numbers.3, many)) (rw c.buffer-capacity.ensures.value at c.in_ok-add_to.ensures.adds) are

use Rattle.std.proofs.lemmas.Result.{err_from_is_err_and}
use Rattle.warm_gossip.proofs.EngineLemmas.{same_view, some_fails}
use Rattle.warm_shard_machine.proofs.shard.write_some.Goals as goal

pub returns-in_err-left : goal.returns-in_err-left
returns-in_err-left g c =
    let given = err_from_is_err_and c.from_residual.result c.from_residual.ensures.1 in
    let asked = c.in_err-left.ensures.asked in
    rw (given.1, given.2) (some_fails c.args.limit _ _ c.in_err-left.field-0.0 asked.known asked.refused)

pub returns : goal.returns
returns g c = let asked = c.in_ok-left.ensures.asked in (same_view _ _ asked.known asked.done.same, asked.done.written)

use Rattle.std.proofs.lemmas.Result.{err_from_is_err_and}
use Rattle.warm_shard_machine.proofs.shard.write_page.Goals as goal

pub returns-in_err-was_dirty : goal.returns-in_err-was_dirty
returns-in_err-was_dirty g c =
    let given = err_from_is_err_and c.from_residual.result c.from_residual.ensures.1 in
    let asked = c.in_err-was_dirty.ensures.asked in
    rw (given.1, given.2) (asked.known, asked.refused)

pub returns : goal.returns
returns g c = let asked = c.in_ok-was_dirty.ensures.asked in (asked.known, asked.done)

use Rattle.std.proofs.lemmas.Result.{err_from_is_err_and}
use Rattle.warm_shard_machine.proofs.shard.flushed.Goals as goal

pub returns-in_err-flush_device : goal.returns-in_err-flush_device
returns-in_err-flush_device g c =
    let given = err_from_is_err_and c.from_residual.result c.from_residual.ensures.1 in
    let asked = c.in_err-flush_device.ensures.asked in
    rw (given.1, given.2) (asked.known, asked.refused)

pub returns : goal.returns
returns g c = let asked = c.in_ok-flush_device.ensures.asked in (asked.known, asked.done)

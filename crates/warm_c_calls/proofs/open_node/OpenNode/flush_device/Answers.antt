use Rattle.std.proofs.Common.{refl}
use Rattle.std.proofs.lemmas.Result.{err_from_is_err_and}
use Rattle.warm_gossip.proofs.EngineLemmas.{same_view}
use Rattle.warm_c_calls.proofs.EngineRefusals.{flush_refused}
use Rattle.warm_c_calls.proofs.open_node.OpenNode.flush_device.Goals as goal

pub returns-in_err-flush_device : goal.returns-in_err-flush_device
returns-in_err-flush_device c =
    let given = err_from_is_err_and c.from_residual.result c.from_residual.ensures.1 in
    let asked = c.in_err-flush_device.ensures.asked in
    rw (given.1, given.2) (flush_refused c.args.self.now (record c.args.self.now { node = c.flush_device.new.self }) asked.known refl c.args.dev c.in_err-flush_device.field-0.0 asked.refused)

pub returns : goal.returns
returns c =
    let asked = c.in_ok-flush_device.ensures.asked in (
      same_view _ _ asked.known asked.done.same,
      asked.done.settled,
      record { elsewhere = asked.done.elsewhere; others = asked.done.others; once = asked.done.once },
      refl,
    )

use Rattle.std.proofs.Common.{refl}
use Rattle.std.proofs.lemmas.Result.{err_from_is_err_and}
use Rattle.warm_c_calls.proofs.EngineRefusals.{zeroed_refused}
use Rattle.warm_c_calls.proofs.open_node.OpenNode.pin_zeroed.Goals as goal

pub returns-in_err-given : goal.returns-in_err-given
returns-in_err-given c =
    let given = err_from_is_err_and c.from_residual.result c.from_residual.ensures.1 in
    rw (given.1, given.2) (zeroed_refused c.args.self.now (record c.args.self.now { node = c.pin_zeroed.new.self }) c.in_err-given.ensures.known refl c.args.page c.args.slot.now c.in_err-given.field-0.0 (rw c.page.ensures at c.in_err-given.ensures.refused))

pub returns : goal.returns
returns c =
    let asked = c.in_ok-given.ensures in
    rw c.of.ensures (record {
      pinned = rw c.page.ensures at asked.done.pinned;
      holds = asked.done.holds;
      frame = rw c.page.ensures at asked.done.frame;
      rest = record { id = asked.known.id; history = asked.known.history; devices = refl };
    })

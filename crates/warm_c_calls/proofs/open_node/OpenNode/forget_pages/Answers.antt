use Rattle.std.proofs.Common.{refl}
use Rattle.std.proofs.lemmas.Result.{err_from_is_err_and}
use Rattle.warm_c_calls.proofs.EngineRefusals.{forget_refused}
use Rattle.warm_c_calls.proofs.open_node.OpenNode.forget_pages.Goals as goal

pub returns-in_err-forget_pages : goal.returns-in_err-forget_pages
returns-in_err-forget_pages c =
    let given = err_from_is_err_and c.from_residual.result c.from_residual.ensures.1 in
    let asked = c.in_err-forget_pages.ensures.asked in
    rw (given.1, given.2) (forget_refused c.args.self.now (record c.args.self.now { node = c.forget_pages.new.self }) asked.known refl c.args.dev c.args.from c.in_err-forget_pages.field-0.0 asked.refused)

pub returns : goal.returns
returns c =
    let asked = c.in_ok-forget_pages.ensures.asked in
    (asked.done, record { id = asked.known.id; history = asked.known.history; devices = refl })

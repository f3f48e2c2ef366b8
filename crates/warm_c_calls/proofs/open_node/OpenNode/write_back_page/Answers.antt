use Rattle.std.proofs.Common.{refl}
use Rattle.std.proofs.lemmas.Result.{err_from_is_err_and}
use Rattle.warm_gossip.proofs.EngineLemmas.{same_view}
use Rattle.warm_c_calls.proofs.EngineRefusals.{page_refused}
use Rattle.warm_c_calls.proofs.open_node.OpenNode.write_back_page.Goals as goal

pub returns-in_err-was_dirty : goal.returns-in_err-was_dirty
returns-in_err-was_dirty c =
    let given = err_from_is_err_and c.from_residual.result c.from_residual.ensures.1 in
    let asked = c.in_err-was_dirty.ensures.asked in
    rw (given.1, given.2) (page_refused c.args.self.now (record c.args.self.now { node = c.write_back_page.new.self }) asked.known refl c.args.page c.args.written.now c.in_err-was_dirty.field-0.0 (rw c.page.ensures at asked.refused))

pub returns : goal.returns
returns c =
    let asked = c.in_ok-was_dirty.ensures.asked in
    (c.in_ok-was_dirty.was_dirty, same_view _ _ asked.known asked.done.same, rw c.page.ensures at asked.done.written, c.c_bool.ensures, refl)

use Rattle.std.proofs.Common.{◌≡◌, ◌∙◌, length, refl, ap}
use Rattle.std.proofs.lemmas.Result.{err_from_is_err_and}
use Rattle.warm_c_calls.proofs.EngineRefusals.{filled_refused}
use Rattle.warm_c_calls.proofs.FilledPinLemmas.{given_by_c}
use Rattle.warm_c_calls.proofs.open_node.OpenNode.pin_filled.Goals as goal

pub pin_filled-requires-clause-given : goal.pin_filled-requires-clause-given
pin_filled-requires-clause-given c =
    given_by_c c.args.self.now.node.pool c.devices-devices.result.now (c.devices-devices.ensures ∙ ap (λ s. s.devices) c.pool-2.ensures) _ _

pub returns-in_err-filled : goal.returns-in_err-filled
returns-in_err-filled c =
    let given = err_from_is_err_and c.from_residual.result c.from_residual.ensures.1 in
    rw (given.1, given.2) (filled_refused c.args.self.now (record c.args.self.now { node = c.pin_filled.new.self }) c.args.page c.args.bytes.now c.args.slot.now c.in_err-filled.field-0.0 refl (rw c.page.ensures at c.in_err-filled.ensures.step) (rw c.page.ensures at c.in_err-filled.ensures.refused))

pub returns : goal.returns
returns c =
    let size : length c.args.bytes.now ≡ c.args.self.now.node.pool.page_size = c.if-bytes-page_size.false ∙ c.page_size.ensures ∙ ap (λ s. s.page_size) c.pool.ensures in
    rw c.of.ensures ((rw c.page.ensures at c.in_ok-filled.ensures.step, refl), size, rw c.page.ensures at c.in_ok-filled.ensures.frame)

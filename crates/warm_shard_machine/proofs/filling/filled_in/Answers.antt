use Rattle.std.proofs.Common.{◌≡◌, ◌∙◌, length, ap}
use Rattle.std.proofs.lemmas.Result.{err_from_is_err_and}
use Rattle.warm_pool.proofs.FillingLemmas.{given_unsure}
use Rattle.warm_shard_machine.proofs.FilledPinLemmas.{filled_not_memory, filled_refused}
use Rattle.warm_shard_machine.proofs.filling.filled_in.Goals as goal

pub pin_filled-requires-clause-given : goal.pin_filled-requires-clause-given
pin_filled-requires-clause-given g c =
    given_unsure g.D.PageDevice.state c.requires.unsure c.args.node.now.pool c.devices-devices.result.now (c.devices-devices.ensures ∙ ap (λ s. s.devices) c.pool-2.ensures) _ _

pub returns-in_err-slot-clause-refused : goal.returns-in_err-slot-clause-refused
returns-in_err-slot-clause-refused g c =
    let given = err_from_is_err_and c.from_residual.result c.from_residual.ensures.1 in
    let size : length c.args.bytes.now ≡ c.args.node.now.pool.page_size = c.if-bytes-page_size.false ∙ c.page_size.ensures ∙ ap (λ s. s.page_size) c.pool.ensures in
    rw (given.1, given.2) (filled_refused c.args.node.now c.pin_filled.new.self c.args.page c.args.bytes.now c.in_err-slot.field-0.0 size c.in_err-slot.ensures.step c.in_err-slot.ensures.refused)

pub returns-clause-pinned : goal.returns-clause-pinned
returns-clause-pinned g c =
    let size : length c.args.bytes.now ≡ c.args.node.now.pool.page_size = c.if-bytes-page_size.false ∙ c.page_size.ensures ∙ ap (λ s. s.page_size) c.pool.ensures in
    (size, c.in_ok-slot.ensures.step, c.in_ok-slot.ensures.frame)

pub returns-in_err-slot-clause-no_memory : goal.returns-in_err-slot-clause-no_memory
returns-in_err-slot-clause-no_memory g c =
    let given = err_from_is_err_and c.from_residual.result c.from_residual.ensures.1 in
    rw (given.1, given.2) (filled_not_memory c.args.node.now c.pin_filled.new.self c.args.page c.in_err-slot.field-0.0 c.in_err-slot.ensures.refused)

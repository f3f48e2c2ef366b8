use Rattle.std.proofs.Common.{sym, ◌∙◌, arith}
use Rattle.std.proofs.lemmas.List.{length-map}
use Rattle.warm_pool.proofs.FlushLemmas.{flushed_more, flush_stops, on_err}
use Rattle.warm_pool.proofs.flush.flush_all.Goals as goal

pub loop-at-preserved : goal.loop-at-preserved
loop-at-preserved g c =
    let call = c.in_ok-flush_device.ensures in
    let flushed = flushed_more c.loop-at.at _ _ _ call.after c.loop-at.invariant.flushed (rw length-map (omega arith)) call.becomes call.done in
    record { flushed = flushed; count = sym (length-map _ _) ∙ flushed.count ∙ length-map _ _ }

pub returns-in_err-flush_device-clause-stopped : goal.returns-in_err-flush_device-clause-stopped
returns-in_err-flush_device-clause-stopped g c =
    let call = c.in_err-flush_device.ensures in
    on_err _ _ (flush_stops c.loop-at.at _ _ _ call.after c.loop-at.invariant.flushed (rw length-map (omega arith)) call.becomes call.failed)

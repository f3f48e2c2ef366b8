use Rattle.std.proofs.Common.{sym, ◌∙◌}
use Rattle.warm_pool.proofs.FlushLemmas.{needs_none, flushes}
use Rattle.warm_pool.proofs.flush.flush_device.Goals as goal

pub returns-then-not-waiting : goal.returns-then-not-waiting
returns-then-not-waiting g c =
    needs_none _ c.args.devices.now.items c.args.at c.index.result.now c.requires c.index.ensures (sym c.waiting.ensures ∙ c.if-not-waiting.true)

pub returns : goal.returns
returns g c =
    let flush = c.flush-done.ensures in
    flushes _ c.args.devices.now.items c.args.at c.index.result.now c.index_mut.result.now c.flush-done.new.self c.flush-done.result c.requires c.index.ensures c.index_mut.ensures.value
    (sym c.waiting.ensures ∙ c.if-not-waiting.false) flush.shape flush.faults flush.calls flush.unfailing flush.flushed flush.failed flush.contents

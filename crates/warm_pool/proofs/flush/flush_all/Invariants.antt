use Rattle.std.proofs.Common.{◌≡◌, length, map}
use Rattle.warm_pool.specs.steps.Flushes.{FlushedTo}
use Rattle.warm_pool.proofs.flush.flush_all.Given as goal

-- the devices so far were flushed
abbrev pub invariant-loop-at : goal.invariant-loop-at
invariant-loop-at g l = record {
  flushed : FlushedTo l.at (map g.D.PageDevice.state l.fn.devices.items) (map g.D.PageDevice.state l.devices.items);
  count : length l.devices.items ≡ length l.fn.devices.items;
}

use Rattle.std.proofs.Common.{◌≡◌, map, take, drop, ◌++◌}
use Rattle.warm_refbuffer.specs.Buffered.{cleared}
use Rattle.warm_world.proofs.replica.clear_all.Given as goal

-- the buffers so far are empty, and the others are unchanged
abbrev pub invariant-loop-buffer : goal.invariant-loop-buffer
invariant-loop-buffer l =
    l.buffer-items
    ≡ map cleared (take l.buffer-index l.fn.buffers.items)
    ++ drop l.buffer-index l.fn.buffers.items

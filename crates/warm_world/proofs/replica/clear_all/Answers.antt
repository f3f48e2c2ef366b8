use Rattle.std.proofs.Common.{◌≡◌, ◌<◌, ◌≤◌, length, map, sym, ◌∙◌, ap, arith}
use Rattle.std.proofs.lemmas.List.{append-nil, with_items_is, take_all, drop_all}
use Rattle.std.proofs.lemmas.List.Edits.{map_over_more}
use Rattle.warm_refbuffer.specs.Buffered.{cleared}
use Rattle.warm_world.proofs.replica.clear_all.Goals as goal

pub loop-buffer-preserved : goal.loop-buffer-preserved
loop-buffer-preserved c =
    let written : c.clear.new.self ≡ cleared c.buffer-item.result = c.clear.ensures ∙ ap cleared (sym c.buffer-item.is) in
    let lt : c.loop-buffer.buffer-index < length c.args.buffers.now.items =
    omega (arith, c.loop-buffer-test.true, ap length c.deref_mut-buffer-items.ensures.value) in
    rw written (map_over_more cleared c.args.buffers.now.items c.loop-buffer.buffer-items c.loop-buffer.buffer-index c.buffer-item.result lt c.loop-buffer.invariant c.buffer-item.is)

pub returns : goal.returns
returns c =
    let bs = c.args.buffers.now.items in
    let long : length c.loop-buffer.buffer-items ≡ c.args.buffers.now.len =
    omega (arith, c.loop-buffer.auto.buffer-items, ap length c.deref_mut-buffer-items.ensures.value, c.args.buffers.now.ok.0) in
    let past : length c.args.buffers.now.items ≤ c.loop-buffer.buffer-index =
    omega (arith, c.loop-buffer-test.false, ap length c.deref_mut-buffer-items.ensures.value) in
    let all : c.loop-buffer.buffer-items ≡ map cleared bs = c.loop-buffer.invariant ∙ rw (take_all _ bs past, drop_all _ bs past) (append-nil (map cleared bs)) in
    with_items_is c.args.buffers.now c.loop-buffer.buffer-items long ∙ all

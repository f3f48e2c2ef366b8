use Rattle.std.proofs.Common.{ℕ, List, length, ap, sym, subst, ◌∙◌}
use Rattle.warm_gossip.specs.declared.call.Call.TheVariants.{Write}
use Rattle.warm_gossip.specs.declared.call.Reply.TheVariants.{Done}
use Rattle.warm_gossip.specs.Lending.{relent_node}
use Rattle.warm_gossip.specs.State.{node_view}
use Rattle.warm_pool.specs.PageBytes.{IsLent}
use Rattle.warm_pool.specs.State.{IsPool}
use Rattle.warm_pool.specs.View.{view_of}
use Rattle.warm_shard_machine.specs.ShardSteps.{CallStep}
use Rattle.warm_shard_machine.proofs.LendingLemmas.{held_unpins, left_written, pinned_holds, written_held}
use Rattle.warm_shard_machine.proofs.lending.change_pinned.Goals as goal

pub unreachable-requires : goal.unreachable-requires
unreachable-requires g c =
    let s = c.pin.new.self in
    let slot = c.in_ok-slot.slot in
    let w = c.f-output.new.arg2 in
    let held = pinned_holds (node_view c.args.node.now) (node_view s) c.args.page slot c.in_ok-slot.ensures.step in
    let pool = subst IsPool c.pool.ensures c.prove_is_pool.ensures in
    let size = c.f-output.auto.arg2 ∙ c.bytes_mut-lent.ensures.lent.size in
    let left = relent_node s slot.index w in
    let still = written_held (node_view s) (node_view left) slot w (left_written s slot w pool held size).0 in
    held_unpins (node_view left) (node_view c.unpin.new.self) slot c.in_default.field-0 still c.in_default.ensures.step

pub returns-clause-changed : goal.returns-clause-changed
returns-clause-changed g c =
    let s = c.pin.new.self in
    let slot = c.in_ok-slot.slot in
    let w = c.f-output.new.arg2 in
    let held = pinned_holds (node_view c.args.node.now) (node_view s) c.args.page slot c.in_ok-slot.ensures.step in
    let pool = subst IsPool c.pool.ensures c.prove_is_pool.ensures in
    let size = c.f-output.auto.arg2 ∙ c.bytes_mut-lent.ensures.lent.size in
    let left = relent_node s slot.index w in
    record {
      mid = s;
      left = left;
      pins = (c.in_ok-slot.ensures.step, c.in_ok-slot.ensures.devices);
      lends = subst (λ (bytes : List ℕ). IsLent (view_of s.pool) slot bytes) (sym c.tag_of-before.ensures) c.bytes_mut-lent.ensures.lent;
      size = ap length c.tag_of-after.ensures ∙ c.f-output.auto.arg2 ∙ ap length (sym c.tag_of-before.ensures);
      writes = subst (λ (bytes : List ℕ). CallStep s (Write slot 0 bytes) Done left) (sym c.tag_of-after.ensures) (left_written s slot w pool held size);
      unpins = (c.in-Ok.ensures.step, c.in-Ok.ensures.devices);
    }

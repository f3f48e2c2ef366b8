use Rattle.std.proofs.Common.{◌≡◌, ◌+◌, ◌++◌, ◌∷◌, [], length, append_assoc, ap, sym, ◌∙◌, arith}
use Rattle.std.proofs.lemmas.List.{length-append}
use Rattle.warm_world.proofs.ReplicaOpeningLemmas.{count, few_here, node_more}
use Rattle.warm_world.proofs.nodes.nodes_over.Goals as goal

pub node_over-requires : goal.node_over-requires
node_over-requires g c = record { few = few_here _ c.loop-list.yielded _ c.in-Some.list c.args.devices.items (ap (λ r. c.loop-list.yielded ++ r) (sym c.in-Some.ensures.steps.0) ∙ c.loop-list.invariant.rest) c.requires.usable.1 }

pub loop-list-init : goal.loop-list-init
loop-list-init g c =
    let each : length c.args.devices.items ≡ c.args.setup.replicas = sym (count _ _) ∙ c.requires.usable.0.0 in
    record {
      rest = c.into_iter-list-iterator.ensures.into_iter_gives.0;
      count = ap length c.in_ok-nodes.ensures.items;
      made = c.in_ok-nodes.ensures.items;
      many = omega (arith, each, c.replicas.ensures.value, c.replicas.ensures.limits.in_range);
      capacity = omega (arith, each, c.replicas.ensures.value, c.in_ok-nodes.ensures.exact);
    }

pub loop-list-preserved : goal.loop-list-preserved
loop-list-preserved g c =
    let so_far = c.loop-list.yielded in
    let list = c.in-Some.list in
    let number : c.in-Ok.id ≡ 1 + length so_far = omega (arith, c.in-Ok.ensures.value, c.len.ensures, c.loop-list.nodes.ok.0, c.loop-list.invariant.count) in
    record {
      rest = append_assoc so_far (list ∷ []) c.next.new.self.rest.items ∙ (ap (λ r. so_far ++ r) (sym c.in-Some.ensures.steps.0) ∙ c.loop-list.invariant.rest);
      count = ap length c.push_reserved.ensures.items ∙ omega (arith, length-append c.loop-list.nodes.items (c.in_ok-node.node ∷ []), length-append so_far (list ∷ []), c.loop-list.invariant.count);
      made = node_more _ c.args.setup c.in-Ok.id c.loop-list.nodes.items c.push_reserved.new.self.items c.in_ok-node.node so_far list c.push_reserved.ensures.items number c.in_ok-node.ensures c.loop-list.invariant.made;
      many = c.loop-list.invariant.many;
      capacity = omega (arith, c.push_reserved.ensures.capacity, c.loop-list.invariant.capacity);
    }

use Rattle.std.proofs.Common.{◌≡◌, ◌+◌, ◌++◌, ◌∷◌, [], length, append_assoc, ap, sym, ◌∙◌, arith}
use Rattle.std.proofs.lemmas.List.{length-append}
use Rattle.warm_world.proofs.ReplicaOpeningLemmas.{few_here, one_more}
use Rattle.warm_world.proofs.world.replicas_over.Goals as goal

pub new-requires-in-loop-list : goal.new-requires-in-loop-list
new-requires-in-loop-list g c =
    few_here _ c.loop-list.yielded _ c.in-Some.list c.args.devices.items (ap (λ r. c.loop-list.yielded ++ r) (sym c.in-Some.ensures.steps.0) ∙ c.loop-list.invariant.rest) c.requires.few

pub loop-list-preserved : goal.loop-list-preserved
loop-list-preserved g c =
    let so_far = c.loop-list.yielded in
    let list = c.in-Some.list in
    let number : c.in-Ok.id ≡ length c.loop-list.replicas.items + 1 = omega (arith, c.in-Ok.ensures.value, c.len-in-loop-list.ensures, c.loop-list.replicas.ok.0) in
    record {
      rest = append_assoc so_far (list ∷ []) c.next.new.self.rest.items ∙ (ap (λ r. so_far ++ r) (sym c.in-Some.ensures.steps.0) ∙ c.loop-list.invariant.rest);
      stand = one_more _ _ c.args.setup c.loop-list.replicas.items _ c.in_ok-replica.replica so_far list c.push_reserved.ensures.items c.loop-list.invariant.stand
          (c.in_ok-replica.ensures (length c.loop-list.replicas.items) number);
      count = ap length c.push_reserved.ensures.items ∙ omega (arith, length-append c.loop-list.replicas.items (c.in_ok-replica.replica ∷ []), length-append so_far (list ∷ []), c.loop-list.invariant.count);
      capacity = omega (arith, c.push_reserved.ensures.capacity, c.loop-list.invariant.capacity);
    }

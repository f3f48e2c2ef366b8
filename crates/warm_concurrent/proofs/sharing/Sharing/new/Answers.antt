use Rattle.std.proofs.Common.{◌≡◌, ℕ, ◌∷◌, [], ◌++◌, length, append_assoc, append-nil, sym, ap, subst, ◌∙◌, arith}
use Rattle.std.proofs.lemmas.List.{length-append, nil_from_length}
use Rattle.warm_shards.specs.Shards.{shard_at}
use Rattle.warm_concurrent.specs.Opening.{AreNumbered, openings, shards_from, shards_over}
use Rattle.warm_concurrent.proofs.ShardNumberLemmas.{next_shard, none_first, numbered}
use Rattle.warm_concurrent.proofs.sharing.Sharing.new.Goals as goal

pub loop-node-preserved : goal.loop-node-preserved
loop-node-preserved g c =
    let i = c.loop-node.invariant in
    let so_far = c.loop-node.yielded in
    let node = c.in-Some.node in
    let number : c.len-number.result ≡ length so_far = omega (arith, c.len-number.ensures, c.loop-node.all.ok.0, i.number) in
    record {
      same = c.push_reserved.ensures.items ∙ next_shard c.count-count.result c.len-number.result c.loop-node.all.items c.new.result so_far node i.same c.new.ensures number;
      rest = append_assoc so_far (node ∷ []) c.next.new.self.rest.items ∙ (ap (λ r. so_far ++ r) (sym c.in-Some.ensures.steps.0) ∙ i.rest);
      number = ap length c.push_reserved.ensures.items ∙ omega (arith, length-append c.loop-node.all.items (c.new.result ∷ []), length-append so_far (node ∷ []), i.number);
      count = i.count;
      capacity = omega (arith, c.push_reserved.ensures.capacity, i.capacity);
    }

pub invariant_of-result : goal.invariant_of-result
invariant_of-result g c =
    let i = c.loop-node.invariant in
    let ss = c.loop-node.all.items in
    let rest = c.loop-node.node-iterator.rest in
    let none : rest.items ≡ [] = nil_from_length rest.items (omega (arith, rest.ok.0, c.in-None.ensures.steps.0)) in
    let whole : c.loop-node.yielded ≡ c.args.shards = sym (append-nil c.loop-node.yielded) ∙ (ap (λ r. c.loop-node.yielded ++ r) (sym none) ∙ i.rest) in
    let is : ss ++ openings c.new-2.result.items ≡ shards_over c.args.shards =
    ap (λ ts. ss ++ openings ts) c.new-2.ensures.items
    ∙ append-nil ss
    ∙ i.same
    ∙ ap (λ n. shards_from n 0 c.loop-node.yielded) i.count
    ∙ ap (λ ns. shards_from (length c.args.shards) 0 ns) whole in (
      rw (c.new-2.ensures.items, c.new-3.ensures.items) none_first,
      subst (λ (n : ℕ). AreNumbered n (ss ++ openings c.new-2.result.items)) (sym c.id-id.ensures)
          (subst (AreNumbered (shard_at c.args.shards 0).id) (sym is) (numbered c.args.shards c.count-count.ensures.shards)),
    )

use Rattle.std.proofs.Common.{arith, length-append, ◌∷◌, ◌++◌}
use Rattle.std.proofs.lemmas.List.Sorted.{length_permutation}
use Rattle.warm_rank.proofs.warm_up.greatest.Goals as goal

pub returns : goal.returns
returns g c =
    let parts = c.select_nth_unstable-top.result in
    let select = c.select_nth_unstable-top.ensures in
    let items = c.args.items.now in
    record {
      others = parts.0.now;
      next = parts.1.now;
      parts = select.permutation;
      split = select.partitioned;
      count = omega (arith, length_permutation items (parts.0.now ++ parts.1.now ∷ parts.2.now) select.permutation, length-append parts.0.now (parts.1.now ∷ parts.2.now), select.front_len);
    }

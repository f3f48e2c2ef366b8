use Rattle.std.proofs.Common.{◌≡◌, ◌<◌, length, get_or, set, take, sym, subst, ◌∙◌, inl, inr, arith}
use Rattle.std.specs.Prelude.{sum}
use Rattle.std.proofs.lemmas.Bool.{cases_eq}
use Rattle.std.proofs.lemmas.List.{get_or_read, get_or-set_other, get_or-set_same, length-set}
use Rattle.std.proofs.lemmas.List.Sums.{sum_by_more, sum_by_more_le}
use Rattle.warm_visits.proofs.batch_parts.add_up.Goals as goal

pub overflow_add-start : goal.overflow_add-start
overflow_add-start c =
    let i = c.loop-shard.invariant in
    let k = c.loop-shard.shard in
    let old = c.args.sizes.now.items in
    let here : k < length c.loop-shard.sizes.items = omega (arith, c.loop-shard-test.true, c.len-shard-end.ensures, i.size, c.args.sizes.now.ok.0) in
    let size = get_or_read c.loop-shard.sizes.items k c.index-size.result.now here c.index-size.ensures 0 in
    let within = sum_by_more_le (λ x. x) old k 0 (omega (arith, here, i.size)) in
    omega (arith, c.requires, i.start, size, i.sizes k (omega arith), within)

pub loop-shard-preserved : goal.loop-shard-preserved
loop-shard-preserved c =
    let i = c.loop-shard.invariant in
    let k = c.loop-shard.shard in
    let old = c.args.sizes.now.items in
    let now = c.loop-shard.sizes.items in
    let start = c.loop-shard.start in
    let here : k < length now = omega (arith, c.loop-shard-test.true, c.len-shard-end.ensures, i.size, c.args.sizes.now.ok.0) in
    let size = get_or_read now k c.index-size.result.now here c.index-size.ensures 0 in
    record {
      size = length-set now k start ∙ i.size;
      start = omega (arith, i.start, size, i.sizes k (omega arith), sum_by_more (λ x. x) old k 0 (omega (arith, here, i.size)));
      sums = λ j lt. elim (cases_eq j k) [
        | inl same ↦ subst (λ n. get_or (set now k start) n 0 ≡ sum (take n old)) (sym same) (get_or-set_same now k start 0 here ∙ i.start)
        | inr other ↦ get_or-set_other now k j start 0 other ∙ i.sums j (omega (arith, lt, other))
      ];
      sizes = λ j le. get_or-set_other now k j start 0 (λ e. omega (arith, e, le)) ∙ i.sizes j (omega (arith, le));
    }

use Rattle.std.proofs.Common.{◌+◌, ◌<◌, ◌≤◌, sym, subst, arith, length}
use Rattle.warm_maps.specs.MapPairs.{MapPairs}
use Rattle.warm_maps.specs.Runs.{with_pairs}
use Rattle.warm_maps.proofs.MergedLemmas.{few_with}
use Rattle.warm_maps.proofs.walk.put_all_in.Goals as goal

pub returns-in-Ok-clause-small : goal.returns-in-Ok-clause-small
returns-in-Ok-clause-small c = λ small.
    let old : MapPairs = c.args.map.now.entries in
    let fresh : MapPairs = c.args.fresh.now in
    let few : length (with_pairs old fresh) ≤ length old + length fresh = few_with old fresh in
    subst (λ (t : MapPairs). length t < 144115188075855872) (sym c.in-Ok.ensures.ok) (omega (arith, few, c.if-len-fresh-ge-MAX_PAIRS.false, c.len.ensures.len))

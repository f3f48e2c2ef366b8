use Rattle.std.proofs.Common.{◌≡◌, ℕ, max, ◌<◌, [], ◌∷◌, ◌++◌, length, refl, sym, ap, subst, ◌∙◌, arith}
use Rattle.warm_concurrent.specs.Raising.{RaisesFirstTo, RaisesTo}
use Rattle.warm_concurrent.proofs.FirstGaveLemmas.{none_gave, one_gave}
use Rattle.warm_concurrent.proofs.RaisingLemmas.{latest_more, raised_first}
use Rattle.warm_concurrent.proofs.history_calls.raise_all.Goals as goal

pub loop-shard-init : goal.loop-shard-init
loop-shard-init g c =
    let old = c.args.passes.now.items in
    record {
      of = c.requires.passes;
      count = omega (arith, c.args.turns.now.ok.0);
      so_far = ([], none_gave (RaisesTo c.args.time) 0 old, refl);
    }

pub returns-in-Err-clause-stopped : goal.returns-in-Err-clause-stopped
returns-in-Err-clause-stopped g c =
    let i = c.loop-shard.invariant in
    let k = c.loop-shard.shard in
    let old = c.args.passes.now.items in
    let mid = c.loop-shard.passes.items in
    let lt : k < length old = omega (arith, i.count, c.loop-shard-test.true, c.requires.passes.count) in
    (mid, lt, raised_first c.args.time k i.so_far.0 old mid i.so_far.1, c.in-Err.ensures.ends)

pub loop-shard-preserved : goal.loop-shard-preserved
loop-shard-preserved g c =
    let i = c.loop-shard.invariant in
    let k = c.loop-shard.shard in
    let old = c.args.passes.now.items in
    let new = c.raise_in.new.passes.items in
    let horizons = i.so_far.0 in
    let horizon = c.in-Ok.horizon in
    let lt : k < length old = omega (arith, i.count, c.loop-shard-test.true, c.requires.passes.count) in
    let ends = c.in-Ok.ensures.ends in
    record {
      of = c.raise_in.ensures.passes;
      count = i.count;
      so_far = (
        horizons ++ horizon ∷ [],
        one_gave (RaisesTo c.args.time) 0 horizons horizon k old c.loop-shard.passes.items i.so_far.1 new lt ends.1 ends.0,
        c.max-latest.ensures ∙ ap (λ (n : ℕ). max n horizon) i.so_far.2 ∙ sym (latest_more horizons horizon),
      );
    }

pub returns-clause-raised : goal.returns-clause-raised
returns-clause-raised g c =
    let i = c.loop-shard.invariant in
    let k = c.loop-shard.shard in
    let turns = c.args.turns.now.items in
    let old = c.args.passes.now.items in
    let now = c.loop-shard.passes.items in
    let most = c.loop-shard.auto.shard-end in
    let end : k ≡ length turns = omega (arith, c.loop-shard-test.false, most, i.count) in
    raised_first c.args.time (length turns) i.so_far.0 old now (subst (λ (n : ℕ). RaisesFirstTo c.args.time i.so_far.0 n old now) end i.so_far.1)

pub returns-clause-latest : goal.returns-clause-latest
returns-clause-latest g c =
    let i = c.loop-shard.invariant in
    let k = c.loop-shard.shard in
    let old = c.args.passes.now.items in
    let now = c.loop-shard.passes.items in
    let most = c.loop-shard.auto.shard-end in
    let end : k ≡ length old = omega (arith, c.loop-shard-test.false, most, i.count, c.requires.passes.count) in
    (i.so_far.0, subst (λ (n : ℕ). RaisesFirstTo c.args.time i.so_far.0 n old now) end i.so_far.1, i.so_far.2)

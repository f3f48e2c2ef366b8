use Rattle.std.proofs.Common.{ℕ, ◌≡◌, ◌+◌, ◌++◌, ◌∷◌, drop, ap, sym, subst}
use Rattle.warm_maps.specs.declared.hist.PageHist.{PageHist}
use Rattle.warm_maps.specs.BucketMaps.{KeysAscend}
use Rattle.warm_maps.specs.MapPairs.{MapPairs}
use Rattle.std.specs.List.{AllByRecursion}
use Rattle.warm_maps.specs.Walks.{AreParts, HoldsFrom, pairs_ahead}
use Rattle.warm_maps.proofs.MapPairLemmas.{left_more, none_left}
use Rattle.warm_maps.proofs.WalkLemmas.{holds_all, holds_rest, parts_more, parts_end}
use Rattle.warm_maps.proofs.walk.compare.Goals as goal

pub find-known-requires-clause-from : goal.find-known-requires-clause-from
find-known-requires-clause-from c =
    let run : MapPairs = c.args.run.now in
    let e : ℕ × PageHist = c.pair-item.result in
    (subst (AllByRecursion (λ (x : ℕ × PageHist). HoldsFrom x.0 (pairs_ahead c.loop-pair.ahead) c.args.map.now.entries)) (left_more run c.loop-pair.pair-index e c.loop-pair-test.true c.pair-item.is) c.loop-pair.invariant.holds).0

pub loop-pair-init : goal.loop-pair-init
loop-pair-init c = record {
  rise = c.requires.run;
  holds = holds_all _ c.args.map.now.entries c.in-Some.first.now c.args.run.now c.in-Some.ensures.value c.ahead_from-ahead.ensures.holds c.requires.run;
  goes_on = λ d f are.
      let old = c.args.map.now.entries in
      let run = c.args.run.now in
      subst (λ (t : MapPairs). AreParts old run t (c.new-fresh.result.items ++ f)) (ap (λ (t : MapPairs). t ++ d) (sym c.new-changed.ensures.items))
      (subst (λ (t : MapPairs). AreParts old run d t) (ap (λ (t : MapPairs). t ++ f) (sym c.new-fresh.ensures.items)) are);
}

pub loop-pair-preserved : goal.loop-pair-preserved
loop-pair-preserved c =
    let run : MapPairs = c.args.run.now in
    let i = c.loop-pair.pair-index in
    let e : ℕ × PageHist = c.pair-item.result in
    let more : drop i run ≡ e ∷ drop (i + 1) run = left_more run i e c.loop-pair-test.true c.pair-item.is in
    let rise : KeysAscend (e ∷ drop (i + 1) run) = subst KeysAscend more c.loop-pair.invariant.rise in
    record {
      rise = rise.1;
      holds = holds_rest _ c.args.map.now.entries e (drop (i + 1) run) c.find-known.ensures.from rise;
      goes_on = parts_more c.args.map.now.entries run (drop i run) (drop (i + 1) run) e c.find-known.result c.loop-pair.changed.items c.loop-pair.fresh.items c.add_part.new.changed.items c.add_part.new.fresh.items more c.find-known.ensures.value c.in_ok-add_part.ensures c.loop-pair.invariant.goes_on;
    }

pub returns : goal.returns
returns c =
    let run : MapPairs = c.args.run.now in
    let i = c.loop-pair.pair-index in
    parts_end c.args.map.now.entries run (drop i run) c.loop-pair.changed.items c.loop-pair.fresh.items (none_left run i c.loop-pair-test.false) c.loop-pair.invariant.goes_on

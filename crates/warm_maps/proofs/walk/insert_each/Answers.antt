use Rattle.std.proofs.Common.{ℕ, ◌≡◌, ◌+◌, ◌∷◌, drop, ap, sym, refl, subst, IsSome, ◌∙◌}
use Rattle.std.specs.List.{AllByRecursion}
use Rattle.warm_maps.specs.declared.hist.PageHist.{PageHist}
use Rattle.warm_maps.specs.BucketMaps.{KeysAscend, found}
use Rattle.warm_maps.specs.MapPairs.{MapPairs}
use Rattle.warm_maps.specs.Runs.{with_pairs}
use Rattle.warm_maps.proofs.MapPairLemmas.{left_more, none_left}
use Rattle.warm_maps.proofs.MergedLemmas.{goes_on_with, rise_more, named_left, same_inserted}
use Rattle.warm_maps.proofs.walk.insert_each.Goals as goal

pub loop-pair-init : goal.loop-pair-init
loop-pair-init c = record {
  map_rise = c.requires.rise;
  rise = c.requires.run;
  named = named_left c.args.pairs.now;
  goes_on = refl;
  others = λ q none. refl;
}

pub loop-pair-preserved : goal.loop-pair-preserved
loop-pair-preserved c =
    let pairs : MapPairs = c.args.pairs.now in
    let i = c.loop-pair.pair-index in
    let e : ℕ × PageHist = c.pair-item.result in
    let inv = c.loop-pair.invariant in
    let more : drop i pairs ≡ e ∷ drop (i + 1) pairs = left_more pairs i e c.loop-pair-test.true c.pair-item.is in
    let rise : KeysAscend (e ∷ drop (i + 1) pairs) = subst KeysAscend more inv.rise in
    let named : AllByRecursion (λ (x : ℕ × PageHist). IsSome (found x.0 pairs)) (e ∷ drop (i + 1) pairs) = subst (AllByRecursion (λ (x : ℕ × PageHist). IsSome (found x.0 pairs))) more inv.named in
    let old : MapPairs = c.loop-pair.map.entries in
    let new : MapPairs = c.insert.new.self.entries in
    record {
      map_rise = rise_more old new e inv.map_rise c.in_ok-insert.ensures.entries;
      rise = rise.1;
      named = named.1;
      goes_on = goes_on_with old new _ (drop i pairs) (drop (i + 1) pairs) e inv.map_rise rise more c.in_ok-insert.ensures.entries inv.goes_on;
      others = same_inserted c.args.map.now.entries old new pairs e named.0 c.in_ok-insert.ensures.entries inv.others;
    }

pub returns-clause-ok : goal.returns-clause-ok
returns-clause-ok c =
    let pairs : MapPairs = c.args.pairs.now in
    ap (with_pairs c.loop-pair.map.entries) (sym (none_left pairs c.loop-pair.pair-index c.loop-pair-test.false)) ∙ c.loop-pair.invariant.goes_on

use Rattle.std.proofs.Common.{ℕ, ◌≡◌, ◌+◌, ◌∷◌, drop, ap, sym, refl, subst, ◌∙◌}
use Rattle.warm_maps.specs.declared.hist.PageHist.{PageHist}
use Rattle.warm_maps.specs.BucketMaps.{KeysAscend}
use Rattle.warm_maps.specs.MapPairs.{MapPairs}
use Rattle.warm_maps.specs.Runs.{with_pairs}
use Rattle.warm_maps.specs.Walks.{AreThere}
use Rattle.warm_maps.proofs.MapPairLemmas.{left_more, none_left}
use Rattle.warm_maps.proofs.MergedLemmas.{goes_on_with, rise_more, there_inserted}
use Rattle.warm_maps.proofs.walk.write_each.Goals as goal

pub write-requires : goal.write-requires
write-requires c =
    let pairs : MapPairs = c.args.pairs.now in
    let i = c.loop-pair.pair-index in
    let e : ℕ × PageHist = c.pair-item.result in
    (subst (λ (t : MapPairs). AreThere t c.loop-pair.map.entries) (left_more pairs i e c.loop-pair-test.true c.pair-item.is) c.loop-pair.invariant.there).0

pub loop-pair-init : goal.loop-pair-init
loop-pair-init c = record {
  map_rise = c.requires.rise;
  rise = c.requires.run;
  there = c.requires.there;
  goes_on = refl;
  as_many = refl;
}

pub loop-pair-preserved : goal.loop-pair-preserved
loop-pair-preserved c =
    let pairs : MapPairs = c.args.pairs.now in
    let i = c.loop-pair.pair-index in
    let e : ℕ × PageHist = c.pair-item.result in
    let inv = c.loop-pair.invariant in
    let more : drop i pairs ≡ e ∷ drop (i + 1) pairs = left_more pairs i e c.loop-pair-test.true c.pair-item.is in
    let rise : KeysAscend (e ∷ drop (i + 1) pairs) = subst KeysAscend more inv.rise in
    let old : MapPairs = c.loop-pair.map.entries in
    let new : MapPairs = c.write.new.map.entries in
    let there : AreThere (e ∷ drop (i + 1) pairs) old = subst (λ (t : MapPairs). AreThere t old) more inv.there in
    record {
      map_rise = rise_more old new e inv.map_rise c.write.ensures.entries;
      rise = rise.1;
      there = there_inserted old new (drop (i + 1) pairs) e c.write.ensures.entries there.1;
      goes_on = goes_on_with old new _ (drop i pairs) (drop (i + 1) pairs) e inv.map_rise rise more c.write.ensures.entries inv.goes_on;
      as_many = c.write.ensures.len ∙ inv.as_many;
    }

pub returns-clause-entries : goal.returns-clause-entries
returns-clause-entries c =
    let pairs : MapPairs = c.args.pairs.now in
    ap (with_pairs c.loop-pair.map.entries) (sym (none_left pairs c.loop-pair.pair-index c.loop-pair-test.false)) ∙ c.loop-pair.invariant.goes_on

use Rattle.std.proofs.Common.{ℕ, ◌≡◌, ◌+◌, ◌∷◌, drop, subst}
use Rattle.warm_maps.specs.declared.hist.PageHist.{PageHist}
use Rattle.warm_maps.specs.MapPairs.{MapPairs}
use Rattle.warm_maps.specs.Walks.{AreAbsent}
use Rattle.warm_maps.proofs.MapPairLemmas.{left_more, none_left}
use Rattle.warm_maps.proofs.RunPairs.{keys_rise}
use Rattle.warm_maps.proofs.MergedLemmas.{same_removed, all_out}
use Rattle.warm_maps.proofs.walk.take_out.Goals as goal

pub loop-pair-init : goal.loop-pair-init
loop-pair-init c = record {
  rise = c.requires;
  absent = λ old absent. absent;
  back = λ old absent same. same;
}

pub loop-pair-preserved : goal.loop-pair-preserved
loop-pair-preserved c =
    let pairs : MapPairs = c.args.pairs.now in
    let i = c.loop-pair.pair-index in
    let e : ℕ × PageHist = c.pair-item.result in
    let inv = c.loop-pair.invariant in
    let more : drop i pairs ≡ e ∷ drop (i + 1) pairs = left_more pairs i e c.loop-pair-test.true c.pair-item.is in
    let left = λ (old : MapPairs) (absent : AreAbsent pairs old). subst (λ (t : MapPairs). AreAbsent t old) more (inv.absent old absent) in
    record {
      rise = keys_rise c.remove.new.self.entries c.remove.ensures.ordered;
      absent = λ old absent. (left old absent).1;
      back = λ old absent same. same_removed old c.loop-pair.map.entries c.remove.new.self.entries (drop i pairs) (drop (i + 1) pairs) e more (left old absent).0 c.remove.ensures.updates.0 (inv.back old absent same);
    }

pub returns : goal.returns
returns c = λ old rise absent same.
    let pairs : MapPairs = c.args.pairs.now in
    all_out old c.loop-pair.map.entries (drop c.loop-pair.pair-index pairs) c.loop-pair.invariant.rise rise (none_left pairs c.loop-pair.pair-index c.loop-pair-test.false) (c.loop-pair.invariant.back old absent same)

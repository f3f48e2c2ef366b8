use Rattle.std.proofs.Common.{ℕ, ◌≡◌, ◌∷◌, ap, sym, subst, ◌∙◌}
use Rattle.std.specs.List.{AllByRecursion}
use Rattle.warm_maps.specs.declared.hist.PageHist.{PageHist}
use Rattle.warm_maps.specs.BucketMaps.{KeysAscend}
use Rattle.warm_maps.specs.Cuts.{cut_at}
use Rattle.warm_maps.specs.MapPairs.{MapPairs}
use Rattle.warm_maps.specs.Walks.{HoldsFrom, pairs_ahead}
use Rattle.warm_maps.proofs.BucketParts.{whole_map}
use Rattle.warm_maps.proofs.NearJoinLemmas.{parts_begin, parts_left}
use Rattle.warm_maps.proofs.WalkLemmas.{holds_all, holds_rest, parts_end}
use Rattle.warm_maps.proofs.near_join.compare_map.Goals as goal

pub add_left-requires-clause-from : goal.add_left-requires-clause-from
add_left-requires-clause-from c =
    (subst (AllByRecursion (λ (x : ℕ × PageHist). HoldsFrom x.0 (pairs_ahead c.loop-key.ahead) c.args.map.now.entries)) c.in-Some-2.ensures.steps c.loop-key.invariant.holds).0

pub loop-key-init : goal.loop-key-init
loop-key-init c =
    let more : MapPairs = c.args.more.now.entries in
    let all : c.into_iter-key-iterator.result ≡ more = c.into_iter-key-iterator.ensures.into_iter_gives ∙ c.range-key-items.ensures.between tt ∙ whole_map more in
    record {
      can = tt;
      finite = tt;
      rise = subst KeysAscend (sym all) c.requires.more;
      holds = subst (AllByRecursion (λ (x : ℕ × PageHist). HoldsFrom x.0 (pairs_ahead c.ahead_from-ahead.result) c.args.map.now.entries)) (sym all)
          (holds_all _ c.args.map.now.entries (c.in-Some.first.now, c.in-Some.field-0-1.now) more (sym c.in-Some.ensures.first) c.ahead_from-ahead.ensures.holds c.requires.more);
      goes_on = parts_begin c.args.map.now.entries (cut_at c.args.horizon more) _ c.new-changed.result.items c.in_ok-fresh.fresh.items c.new-changed.ensures.items c.in_ok-fresh.ensures.items (ap (cut_at c.args.horizon) all);
    }

pub loop-key-preserved : goal.loop-key-preserved
loop-key-preserved c =
    let inv = c.loop-key.invariant in
    let e : ℕ × PageHist = (c.in-Some-2.key.now, c.in-Some-2.hist.now) in
    let rest : MapPairs = c.next.new.self in
    let rise : KeysAscend (e ∷ rest) = subst KeysAscend c.in-Some-2.ensures.steps inv.rise in
    record {
      can = tt;
      finite = tt;
      rise = rise.1;
      holds = holds_rest _ c.args.map.now.entries e rest c.add_left.ensures.from rise;
      goes_on = parts_left c.args.horizon c.args.map.now.entries (cut_at c.args.horizon c.args.more.now.entries) c.loop-key.key-iterator rest e c.cut_before-left.result c.loop-key.changed.items c.loop-key.fresh.items c.add_left.new.changed.items c.add_left.new.fresh.items
          c.in-Some-2.ensures.steps c.cut_before-left.ensures.left c.in_ok-add_left.ensures.adds inv.goes_on;
    }

pub returns : goal.returns
returns c = parts_end c.args.map.now.entries (cut_at c.args.horizon c.args.more.now.entries) (cut_at c.args.horizon c.loop-key.key-iterator) c.loop-key.changed.items c.loop-key.fresh.items (ap (cut_at c.args.horizon) c.in-None.ensures.steps.0) c.loop-key.invariant.goes_on

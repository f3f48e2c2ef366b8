use Rattle.std.proofs.Common.{◌≡◌, sym, ◌∙◌, arith, length, vec_len}
use Rattle.std.proofs.lemmas.Bool.{eqb-true}
use Rattle.warm_maps.proofs.NearJoinLemmas.{filled_with, kept_with}
use Rattle.warm_maps.proofs.near_join.put_in.Goals as goal

-- there is nothing to put in
pub returns-then-is_empty-clause-ok : goal.returns-then-is_empty-clause-ok
returns-then-is_empty-clause-ok c =
    let none : vec_len c.args.fresh ≡ 0 = eqb-true (vec_len c.args.fresh) 0 (sym c.is_empty.ensures ∙ c.if-is_empty.true) in
    let short : length c.args.fresh.items ≡ 0 = omega (arith, none, c.args.fresh.ok.0) in
    kept_with c.args.map.now.entries c.args.fresh.items short

-- the map has no pairs
pub returns-then-is_empty-2-clause-ok : goal.returns-then-is_empty-2-clause-ok
returns-then-is_empty-2-clause-ok c = filled_with c.args.map.now.entries c.args.fresh.items c.deref.result.now c.in_ok-made.made.entries (c.is_empty-2.ensures.0 c.if-is_empty-2.true) c.requires.run c.deref.ensures.value c.in_ok-made.ensures.same

use Rattle.std.proofs.Common.{◌≡◌, true, false, ap, sym, subst, ◌∙◌, length}
use Rattle.std.proofs.lemmas.Bool.{eq-eqb}
use Rattle.warm_maps.specs.MapPairs.{MapPairs}
use Rattle.warm_maps.specs.Walks.{DiffersAt}
use Rattle.warm_maps.proofs.MergedLemmas.{filled_is, filled_differs}
use Rattle.warm_maps.proofs.walk.fill.Goals as goal

pub returns-clause-ok : goal.returns-clause-ok
returns-clause-ok c = c.in_ok-made.ensures.same ∙ filled_is c.args.map.now.entries c.args.run.now c.requires.free c.requires.run c.requires.latest

pub returns-clause-tells : goal.returns-clause-tells
returns-clause-tells c =
    let old : MapPairs = c.args.map.now.entries in
    let run : MapPairs = c.args.run.now in
    let differs = filled_differs old run c.requires.free (λ none.
    let no : false ≡ true = c.if-is_empty.ensures ∙ eq-eqb (length run) 0 (ap length none) in
    absurd (cc)) in
    ((λ yes. subst (DiffersAt run old) (sym c.in_ok-made.ensures.same) differs), λ no. absurd (cc))

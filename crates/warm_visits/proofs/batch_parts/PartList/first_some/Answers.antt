use Rattle.std.proofs.Common.{List, subst, arith}
use Rattle.warm_visits.specs.Parts.{IsFirstSome}
use Rattle.warm_visits.proofs.PartCuts.{count_is, first_is}
use Rattle.warm_visits.proofs.batch_parts.PartList.first_some.Goals as goal

pub start_of-requires : goal.start_of-requires
start_of-requires g c =
    let s = c.self.inside in
    omega (arith, c.requires, count_is s.ends.items s.items.items c.args.self.now c.self.view_is)

pub first_past-requires : goal.first_past-requires
first_past-requires g c =
    let s = c.self.inside in
    omega (arith, c.requires, count_is s.ends.items s.items.items c.args.self.now c.self.view_is)

pub returns : goal.returns
returns g c =
    let s = c.self.inside in
    let e = c.first_past.ensures in
    subst (λ (parts : List (List g.row.T.Denot)). IsFirstSome parts c.args.from c.first_past.result) c.self.view_is
    (first_is s.ends.items s.items.items c.start_of.result c.args.from c.first_past.result c.self.invariant c.start_of.ensures e.from e.below e.passed e.there)

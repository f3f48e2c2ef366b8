use Rattle.std.proofs.Common.{◌≡◌, Ok, Err, Some, None, sym, ap, ◌∙◌, arith}
use Rattle.warm_visits.specs.Visits.{result_of}
use Rattle.warm_shards.specs.Shards.{whole}
use Rattle.warm_shards.proofs.VisitSweeps.{alone_raises}
use Rattle.warm_shards.proofs.history_calls.raise_all.Goals as goal

pub unreachable-requires : goal.unreachable-requires
unreachable-requires g c =
    let rose = alone_raises c.args.nodes.now.items c.go_through.new.nodes.items c.raise-visit.result c.go_through.new.visit c.id.result c.len.result c.args.time c.requires c.raise-visit.ensures (omega (arith, c.args.nodes.now.ok.0)) c.go_through.ensures.gone c.go_through.ensures.over in
    let no : Err c.in_default.field-0 ≡ Ok tt = sym c.in_default.is ∙ c.go_through.ensures.returned ∙ ap result_of rose.well in
    absurd (cc)

pub unreachable-requires-in_default-kept : goal.unreachable-requires-in_default-kept
unreachable-requires-in_default-kept g c =
    let rose = alone_raises c.args.nodes.now.items c.go_through.new.nodes.items c.raise-visit.result c.go_through.new.visit c.id.result c.len.result c.args.time c.requires c.raise-visit.ensures (omega (arith, c.args.nodes.now.ok.0)) c.go_through.ensures.gone c.go_through.ensures.over in
    let no : None ≡ Some (whole c.go_through.new.nodes.items).horizon = sym c.in_default-kept.is ∙ c.kept.ensures ∙ rose.kept in
    absurd (cc)

pub returns-clause-given : goal.returns-clause-given
returns-clause-given g c =
    let rose = alone_raises c.args.nodes.now.items c.go_through.new.nodes.items c.raise-visit.result c.go_through.new.visit c.id.result c.len.result c.args.time c.requires c.raise-visit.ensures (omega (arith, c.args.nodes.now.ok.0)) c.go_through.ensures.gone c.go_through.ensures.over in
    rose.given

pub returns-clause-kept : goal.returns-clause-kept
returns-clause-kept g c =
    let rose = alone_raises c.args.nodes.now.items c.go_through.new.nodes.items c.raise-visit.result c.go_through.new.visit c.id.result c.len.result c.args.time c.requires c.raise-visit.ensures (omega (arith, c.args.nodes.now.ok.0)) c.go_through.ensures.gone c.go_through.ensures.over in
    let is : Some c.in-Some.horizon ≡ Some (whole c.go_through.new.nodes.items).horizon = sym c.in-Some.is ∙ c.kept.ensures ∙ rose.kept in
    cc

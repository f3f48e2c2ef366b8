use Rattle.std.proofs.Common.{sym, ◌∙◌, arith}
use Rattle.std.proofs.lemmas.Result.{err_from_is_err_and}
use Rattle.warm_shards.proofs.Calls.{first_id}
use Rattle.warm_shards.proofs.VisitReceives.{going_if, offers_all, offers_none, offers_refused, offers_so, offers_some, stopped_if}
use Rattle.warm_shards.proofs.answers.offer_of_all.Goals as goal

pub returns-in_err-visit : goal.returns-in_err-visit
returns-in_err-visit g c =
    let given = err_from_is_err_and c.from_residual.result c.from_residual.ensures.1 in
    rw (given.1) (offers_none c.args.nodes.now.items given.0 c.requires given.2)

pub returns-in_err-go_through : goal.returns-in_err-go_through
returns-in_err-go_through g c =
    let given = err_from_is_err_and c.from_residual-in_err-go_through.result c.from_residual-in_err-go_through.ensures.1 in
    let old = c.args.nodes.now.items in
    let new = c.go_through.new.nodes.items in
    let after = c.go_through.new.visit in
    let ends = offers_so old new c.in_ok-visit.visit after c.id.result c.len.result c.requires c.in_ok-visit.ensures (first_id c.index.result.now c.requires c.index.ensures c.id.ensures) (omega (arith, c.len.ensures, c.args.nodes.now.ok.0)) c.go_through.ensures.gone c.go_through.ensures.over in
    let why = stopped_if after.stopped c.in_err-go_through.field-0.0 (sym c.in_err-go_through.was ∙ c.go_through.ensures.returned) in
    rw (given.1) (offers_refused old new after given.0 ends why.0 (given.2 ∙ why.1))

pub unreachable-requires : goal.unreachable-requires
unreachable-requires g c =
    let old = c.args.nodes.now.items in
    let new = c.go_through.new.nodes.items in
    let after = c.go_through.new.visit in
    let ends = offers_so old new c.in_ok-visit.visit after c.id.result c.len.result c.requires c.in_ok-visit.ensures (first_id c.index.result.now c.requires c.index.ensures c.id.ensures) (omega (arith, c.len.ensures, c.args.nodes.now.ok.0)) c.go_through.ensures.gone c.go_through.ensures.over in
    let well = going_if after.stopped c.in_ok-go_through.field-0 (sym c.in_ok-go_through.was ∙ c.go_through.ensures.returned) in
    offers_some old new after ends well (sym c.in_default.is ∙ c.offered.ensures)

pub returns : goal.returns
returns g c =
    let old = c.args.nodes.now.items in
    let new = c.go_through.new.nodes.items in
    let after = c.go_through.new.visit in
    let ends = offers_so old new c.in_ok-visit.visit after c.id.result c.len.result c.requires c.in_ok-visit.ensures (first_id c.index.result.now c.requires c.index.ensures c.id.ensures) (omega (arith, c.len.ensures, c.args.nodes.now.ok.0)) c.go_through.ensures.gone c.go_through.ensures.over in
    let well = going_if after.stopped c.in_ok-go_through.field-0 (sym c.in_ok-go_through.was ∙ c.go_through.ensures.returned) in
    offers_all old new after c.in-Some.offer ends well (sym c.in-Some.is ∙ c.offered.ensures)

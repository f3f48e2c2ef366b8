use Rattle.std.proofs.Common.{sym, ◌∙◌}
use Rattle.std.proofs.lemmas.Result.{err_from_is_err_and}
use Rattle.warm_shards.proofs.VisitReceives.{ends_so, going_if, receives_late, receives_ok, receives_stopped, stopped_if}
use Rattle.warm_shards.proofs.answers.visited.Goals as goal

pub returns-in_err-go_through : goal.returns-in_err-go_through
returns-in_err-go_through g c message none is =
    let given = err_from_is_err_and c.from_residual.result c.from_residual.ensures.1 in
    let old = c.args.nodes.now.items in
    let new = c.go_through.new.nodes.items in
    let after = c.go_through.new.visit in
    let ends = ends_so message old new c.args.visit after c.requires.shards is c.go_through.ensures.gone c.go_through.ensures.over in
    let why = stopped_if after.stopped c.in_err-go_through.field-0.0 (sym c.in_err-go_through.was ∙ c.go_through.ensures.returned) in
    rw (given.1) (receives_stopped message old new after given.0 ends why.0 (given.2 ∙ why.1))

pub returns-in_err-answers : goal.returns-in_err-answers
returns-in_err-answers g c message none is =
    let given = err_from_is_err_and c.from_residual-in_err-answers.result c.from_residual-in_err-answers.ensures.1 in
    let old = c.args.nodes.now.items in
    let new = c.go_through.new.nodes.items in
    let after = c.go_through.new.visit in
    let ends = ends_so message old new c.args.visit after c.requires.shards is c.go_through.ensures.gone c.go_through.ensures.over in
    let well = going_if after.stopped c.in_ok-go_through.field-0 (sym c.in_ok-go_through.was ∙ c.go_through.ensures.returned) in
    rw (given.1) (receives_late message old new after given.0 c.requires.shards ends well none given.2)

pub returns : goal.returns
returns g c message none is =
    let old = c.args.nodes.now.items in
    let new = c.go_through.new.nodes.items in
    let after = c.go_through.new.visit in
    let ends = ends_so message old new c.args.visit after c.requires.shards is c.go_through.ensures.gone c.go_through.ensures.over in
    let well = going_if after.stopped c.in_ok-go_through.field-0 (sym c.in_ok-go_through.was ∙ c.go_through.ensures.returned) in
    receives_ok message old new after c.in_ok-answers.answers ends well c.in_ok-answers.ensures

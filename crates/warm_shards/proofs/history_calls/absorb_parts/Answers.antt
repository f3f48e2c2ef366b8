use Rattle.std.proofs.Common.{Result, sym, subst, arith}
use Rattle.std.proofs.lemmas.Result.{err_from_is_err_and}
use Rattle.warm_history.specs.ReferenceSets.{set_of_list}
use Rattle.warm_gossip.specs.declared.fault.NodeFault.{NodeFault}
use Rattle.warm_shards.specs.Given.{Gives}
use Rattle.warm_shards.specs.VisitLaws.{GoesAlone}
use Rattle.warm_visits.specs.Visits.{VisitState}
use Rattle.warm_shards.proofs.GivenLemmas.{gives_none}
use Rattle.warm_shards.proofs.VisitSweeps.{alone_absorbs}
use Rattle.warm_shards.proofs.history_calls.absorb_parts.Goals as goal

pub returns-in_err-visit : goal.returns-in_err-visit
returns-in_err-visit g c =
    let given = err_from_is_err_and c.from_residual.result c.from_residual.ensures.1 in
    rw (given.1) (gives_none (set_of_list c.args.batch.now) c.args.nodes.now.items given.0 c.requires (omega arith) given.2)

pub returns : goal.returns
returns g c =
    let old = c.args.nodes.now.items in
    let new = c.go_through.new.nodes.items in
    let after = c.go_through.new.visit in
    let gone = subst (λ (v : VisitState). GoesAlone v old after new) c.in_ok-visit.ensures c.go_through.ensures.gone in
    subst (λ (r : Result Unit NodeFault). Gives (set_of_list c.args.batch.now) old r new) (sym c.go_through.ensures.returned)
    (alone_absorbs old new after c.args.batch.now c.id.result c.len-2.result c.requires (omega (arith, c.args.nodes.now.ok.0)) gone c.go_through.ensures.over)

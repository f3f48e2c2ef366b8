use Rattle.std.proofs.Common.{Result, sym, subst, arith}
use Rattle.std.proofs.lemmas.Result.{err_from_is_err_and}
use Rattle.warm_history.specs.Histories.{history_of_entries_at, references_of}
use Rattle.warm_gossip.specs.declared.fault.NodeFault.{NodeFault}
use Rattle.warm_shards.specs.Given.{Gives}
use Rattle.warm_shards.specs.VisitLaws.{GoesAlone}
use Rattle.warm_visits.specs.Visits.{VisitState}
use Rattle.warm_shards.proofs.GivenLemmas.{gives_none}
use Rattle.warm_shards.proofs.VisitSweeps.{alone_gives}
use Rattle.warm_shards.proofs.joining.join_parts.Goals as goal

pub returns-in_err-visit : goal.returns-in_err-visit
returns-in_err-visit g c =
    let given = err_from_is_err_and c.from_residual.result c.from_residual.ensures.1 in
    rw (given.1) (gives_none (references_of (history_of_entries_at c.args.horizon c.args.entries.now)) c.args.nodes.now.items given.0 c.requires.shards c.requires.raised given.2)

pub returns : goal.returns
returns g c =
    let old = c.args.nodes.now.items in
    let new = c.go_through.new.nodes.items in
    let after = c.go_through.new.visit in
    let S = references_of (history_of_entries_at c.args.horizon c.args.entries.now) in
    let gone = subst (λ (v : VisitState). GoesAlone v old after new) c.in_ok-visit.ensures c.go_through.ensures.gone in
    subst (λ (r : Result Unit NodeFault). Gives S old r new) (sym c.go_through.ensures.returned)
    (alone_gives old new after S c.id.result c.len-2.result c.requires.shards (omega (arith, c.args.nodes.now.ok.0)) gone c.go_through.ensures.over).gives

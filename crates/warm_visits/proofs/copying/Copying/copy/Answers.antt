use Rattle.std.proofs.Common.{◌+◌, Result, refl, sym, ap, subst}
use Rattle.std.proofs.lemmas.Result.{err_from_is_err_and}
use Rattle.warm_history.specs.Histories.{HistoryView}
use Rattle.warm_gossip.specs.declared.fault.NodeFault.{NodeFault}
use Rattle.warm_visits.specs.VisitReads.{ReadsOne, copying_visit}
use Rattle.warm_visits.proofs.VisitReadsTasks.{copies_one, copies_refused}
use Rattle.warm_visits.proofs.copying.Copying.copy.Goals as goal

pub returns-clause-copied : goal.returns-clause-copied
returns-clause-copied g c id =
    let s = c.args.self.now in
    copies_one id c.args.count s (record { shard = s.shard + 1; history = c.join.new.self }) c.history.result.now c.args.node.now c.requires c.history.ensures c.in_ok-join.ensures.exact refl

pub returns-in_err-join-clause-copied : goal.returns-in_err-join-clause-copied
returns-in_err-join-clause-copied g c id =
    let s = c.args.self.now in
    let n = c.args.node.now in
    let v = copying_visit id c.args.count s in
    let w : HistoryView → _ = λ h. copying_visit id c.args.count (record { shard = s.shard; history = h }) in
    let given = err_from_is_err_and c.from_residual.result c.from_residual.ensures.1 in
    subst (λ (r : Result (Unit {0}) NodeFault). ReadsOne v n r (w c.join.new.self) n) (sym given.1)
    (copies_refused id c.args.count s n c.requires, ap w c.in_err-join.ensures.err, given.2)

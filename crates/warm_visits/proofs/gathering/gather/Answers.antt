use Rattle.std.proofs.Common.{inl, inr, Option, Result, sym, subst, ◌∙◌, arith}
use Rattle.std.proofs.lemmas.Result.{err_from_is_err_and}
use Rattle.warm_gossip.specs.declared.fault.NodeFault.{NodeFault}
use Rattle.warm_visits.specs.declared.sending.Sending.{Sending}
use Rattle.warm_visits.specs.VisitReads.{GathersOne}
use Rattle.warm_visits.proofs.VisitReadsTasks.{before_none, before_some, gathers_last, gathers_next, gathers_refused, none_if}
use Rattle.warm_visits.proofs.gathering.gather.Goals as goal

pub returns-in_err-add : goal.returns-in_err-add
returns-in_err-add g c id =
    let count = c.args.count in
    let old = c.args.gathering.now in
    let given = err_from_is_err_and c.from_residual.result c.from_residual.ensures.1 in
    let refused = c.in_err-add.ensures in
    subst (λ (r : Result (Option Sending) NodeFault). GathersOne id count old c.args.node.now r c.add.new.self c.add.new.node) (sym given.1)
    (refused.1, given.2 ∙ refused.2, gathers_refused id count old c.args.node.now c.add.new.node c.requires refused.0)

pub returns-then-gathering-count : goal.returns-then-gathering-count
returns-then-gathering-count g c id =
    let h = c.add.new.self in
    (gathers_next id c.args.count c.args.gathering.now h c.args.node.now c.add.new.node c.requires c.in_ok-add.ensures (inl c.if-gathering-count.true), before_some h.shard c.args.count h.waiting c.if-gathering-count.true)

pub returns-in_default : goal.returns-in_default
returns-in_default g c id =
    let h = c.add.new.self in
    let added = c.in_ok-add.ensures in
    let none = none_if h.waiting c.in_default.not-Some in
    (gathers_next id c.args.count c.args.gathering.now h c.args.node.now c.add.new.node c.requires added (inr none), before_none h.shard c.args.count h.waiting (omega (arith, added.4, c.requires)) none)

pub returns : goal.returns
returns g c id =
    (gathers_last id c.args.count c.args.gathering.now c.add.new.self c.args.node.now c.add.new.node c.compared-sending.result c.in-Some.digests c.requires c.in_ok-add.ensures (omega (arith, c.if-gathering-count.false)) c.in-Some.is c.compared-sending.ensures.compared, c.compared-sending.ensures.page)

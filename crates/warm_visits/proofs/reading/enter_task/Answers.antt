use Rattle.std.proofs.Common.{Option, Result, Ok, sym, ap, subst, ◌∙◌}
use Rattle.std.proofs.lemmas.Result.{err_from_is_err_and}
use Rattle.warm_gossip.specs.declared.fault.NodeFault.{NodeFault}
use Rattle.warm_visits.specs.declared.reading.Task.{Task}
use Rattle.warm_visits.specs.declared.reading.Task.TheVariants.{Gather}
use Rattle.warm_visits.specs.declared.sending.Sending.{Sending}
use Rattle.warm_visits.specs.VisitReads.{GathersOne, HasReadOne, IsReadingVisit, ReadsOne, gathering_visit, reading_of, sending_visit}
use Rattle.warm_visits.proofs.VisitReadsTasks.{none_if}
use Rattle.warm_visits.proofs.reading.enter_task.Goals as goal

pub returns-in_err-sending-in-Gather-clause-read :
    goal.returns-in_err-sending-in-Gather-clause-read
returns-in_err-sending-in-Gather-clause-read g c =
    let id = c.args.id in
    let count = c.args.count in
    let n = c.args.node.now in
    let m = c.gather.new.node in
    let h = c.gather.new.self in
    let given = err_from_is_err_and c.from_residual.result c.from_residual.ensures.1 in
    let refused = c.in_err-sending-in-Gather.ensures id in
    subst (λ (t : Task). ReadsOne (reading_of id count t) n c.from_residual.result (gathering_visit id count h) m) (sym c.in-Gather.is)
    (subst (λ (r : Result (Unit {0}) NodeFault). ReadsOne (gathering_visit id count c.in-Gather.gathering) n r (gathering_visit id count h) m) (sym given.1)
    (refused.2, ap (gathering_visit id count) refused.0, given.2 ∙ refused.1))

pub returns-in_err-sending-in-Gather-clause-reading :
    goal.returns-in_err-sending-in-Gather-clause-reading
returns-in_err-sending-in-Gather-clause-reading g c =
    let count = c.args.count in
    let refused = c.in_err-sending-in-Gather.ensures c.args.id in
    subst (IsReadingVisit count) (c.in-Gather.is ∙ ap Gather (sym refused.0)) c.requires.reading

pub returns-in-Some-clause-read : goal.returns-in-Some-clause-read
returns-in-Some-clause-read g c =
    let id = c.args.id in
    let count = c.args.count in
    let n = c.args.node.now in
    let m = c.gather.new.node in
    let gathers = subst (λ (x : Option Sending). GathersOne id count c.in-Gather.gathering n (Ok x) c.gather.new.self m) c.in-Some.is (c.in_ok-sending-in-Gather.ensures id) in
    subst (λ (t : Task). HasReadOne (reading_of id count t) n (sending_visit id count c.in-Some.sending) m) (sym c.in-Gather.is) gathers.0

pub returns-in_default-clause-read : goal.returns-in_default-clause-read
returns-in_default-clause-read g c =
    let id = c.args.id in
    let count = c.args.count in
    let n = c.args.node.now in
    let m = c.gather.new.node in
    let none = none_if c.in_ok-sending-in-Gather.field-0 c.in_default.not-Some in
    let gathers = subst (λ (x : Option Sending). GathersOne id count c.in-Gather.gathering n (Ok x) c.gather.new.self m) none (c.in_ok-sending-in-Gather.ensures id) in
    subst (λ (t : Task). HasReadOne (reading_of id count t) n (gathering_visit id count c.gather.new.self) m) (sym c.in-Gather.is) gathers.0

pub returns-in_default-clause-reading : goal.returns-in_default-clause-reading
returns-in_default-clause-reading g c =
    let none = none_if c.in_ok-sending-in-Gather.field-0 c.in_default.not-Some in
    let gathers = subst (λ (x : Option Sending). GathersOne c.args.id c.args.count c.in-Gather.gathering c.args.node.now (Ok x) c.gather.new.self c.gather.new.node) none (c.in_ok-sending-in-Gather.ensures c.args.id) in
    record { some = c.requires.reading.some; place = gathers.1 }

use Rattle.std.proofs.Common.{◌≡◌, ◌≢◌, List, length, None, sym, ap, subst, ◌∙◌, arith}
use Rattle.std.specs.Prelude.{Option}
use Rattle.warm_visits.specs.Stages.{next_stage}
use Rattle.warm_visits.specs.Visits.{Errand, VisitState}
use Rattle.warm_shard_machine.specs.Entering.{IsNextAt}
use Rattle.warm_shard_machine.specs.ShardSteps.{MayAnswer}
use Rattle.warm_shard_machine.specs.Visits.{EntersAs}
use Rattle.warm_shards.proofs.VisitReceives.{stopped_if as refused_by}
use Rattle.warm_concurrent.specs.declared.fault.SharedFault.{SharedFault}
use Rattle.warm_concurrent.specs.Visiting.{EntryFails}
use Rattle.warm_concurrent.proofs.EntryLemmas.{fails, same_plan, some_stage}
use Rattle.warm_concurrent.proofs.visiting.enter_shard.Goals as goal

-- a visit that was refused has the errands that it had
pub at_next-requires-in-Err-result : goal.at_next-requires-in-Err-result
at_next-requires-in-Err-result g c =
    let old = c.args.passes.now.items in
    let v = c.args.visit in
    let i = c.args.shard in
    let w = c.in-Ok-Some.after in
    let made = c.in-Ok-Some.ensures.visited in
    let size : c.len.result ≡ length c.args.turns.now.items = omega (arith, c.len.ensures, c.args.turns.now.ok.0) in
    let at = subst (λ n. IsNextAt n i v) (sym size) c.requires.next in
    let may = subst (λ n. MayAnswer n i made.0 made.1) (sym size) made.4 in
    let goes = subst (λ (o : Option VisitState). EntersAs v o made.1) c.in-Ok-Some.field-0-is made.2.1 in
    let why = refused_by w.stopped c.in-Err-result.why (sym c.in-Err-result.is ∙ c.result.ensures) in
    let plan = same_plan old c.visit_or_back.new.passes.items c.len.result i v made.0 made.1 at made.2.0 may w goes.0 why.0 in
    subst (λ (es : List Errand). next_stage es ≢ None) (sym plan) (some_stage v.stopped v.plan i c.requires.next.next)

pub returns-in-Err-result-clause-stage : goal.returns-in-Err-result-clause-stage
returns-in-Err-result-clause-stage g c =
    let old = c.args.passes.now.items in
    let v = c.args.visit in
    let i = c.args.shard in
    let w = c.in-Ok-Some.after in
    let made = c.in-Ok-Some.ensures.visited in
    let size : c.len.result ≡ length c.args.turns.now.items = omega (arith, c.len.ensures, c.args.turns.now.ok.0) in
    let at = subst (λ n. IsNextAt n i v) (sym size) c.requires.next in
    let may = subst (λ n. MayAnswer n i made.0 made.1) (sym size) made.4 in
    let goes = subst (λ (o : Option VisitState). EntersAs v o made.1) c.in-Ok-Some.field-0-is made.2.1 in
    let why = refused_by w.stopped c.in-Err-result.why (sym c.in-Err-result.is ∙ c.result.ensures) in
    let plan = same_plan old c.visit_or_back.new.passes.items c.len.result i v made.0 made.1 at made.2.0 may w goes.0 why.0 in
    ap next_stage (sym plan) ∙ c.at_next-in-Err-result.ensures.stage

pub returns-in-Err-result-clause-stopped : goal.returns-in-Err-result-clause-stopped
returns-in-Err-result-clause-stopped g c =
    let old = c.args.passes.now.items in
    let new = c.visit_or_back.new.passes.items in
    let v = c.args.visit in
    let i = c.args.shard in
    let w = c.in-Ok-Some.after in
    let made = c.in-Ok-Some.ensures.visited in
    let size : c.len.result ≡ length c.args.turns.now.items = omega (arith, c.len.ensures, c.args.turns.now.ok.0) in
    let at = subst (λ n. IsNextAt n i v) (sym size) c.requires.next in
    let may = subst (λ n. MayAnswer n i made.0 made.1) (sym size) made.4 in
    let goes = subst (λ (o : Option VisitState). EntersAs v o made.1) c.in-Ok-Some.field-0-is made.2.1 in
    let why = refused_by w.stopped c.in-Err-result.why (sym c.in-Err-result.is ∙ c.result.ensures) in
    let stopped = fails old new c.len.result i v made.0 made.1 at made.2.0 may (c.requires.passes.count ∙ sym size) (omega (arith, c.requires.there, c.requires.passes.count)) made.3 w goes.0 c.in-Err-result.why why.0 why.1 in
    (c.at_next-in-Err-result.ensures.shard, subst (λ (f : SharedFault). EntryFails v i f old new) (sym c.at_next-in-Err-result.ensures.fault) stopped)

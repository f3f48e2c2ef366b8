use Rattle.std.proofs.Common.{◌≡◌, inr, sym, subst, ◌∙◌}
use Rattle.warm_peer.specs.Answers.{IsAnswer}
use Rattle.warm_concurrent.specs.Attached.{OpenedAs, opened_id}
use Rattle.warm_concurrent.proofs.shared.SharedShards.answers.Goals as goal

pub returns-in_default-clause-stopped : goal.returns-in_default-clause-stopped
returns-in_default-clause-stopped g c =
    let copied = c.in_ok-copy.ensures.copied in
    inr (c.after_all.ensures.shard ∙ c.count.ensures.value ∙ sym c.requires.count, c.after_all.ensures.fault, (copied.0, copied.1))

pub returns-clause-answers : goal.returns-clause-answers
returns-clause-answers g c =
    let turns = c.args.self.now in
    let is : c.id.result ≡ opened_id turns = c.id.ensures.value in
    let copy = c.in_ok-copy.copy in
    (subst (λ id. OpenedAs id turns) is c.id.ensures.opened, copy, c.in_ok-copy.ensures.copied, subst (λ id. IsAnswer id copy c.args.message.now c.in-Ok.answers) is c.in-Ok.ensures)

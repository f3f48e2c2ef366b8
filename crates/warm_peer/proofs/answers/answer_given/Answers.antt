use Rattle.std.proofs.Common.{refl, sym, ◌∙◌, arith}
use Rattle.std.proofs.lemmas.Bool.{eqb-false}
use Rattle.warm_history.specs.Losses.{raised}
use Rattle.warm_peer.proofs.AnswerLemmas.{some_differ}
use Rattle.warm_peer.proofs.answers.answer_given.Goals as goal

pub returns : goal.returns
returns c =
    let h = raised c.args.horizon c.args.history.now in
    let some = eqb-false c.differing-request.result 0 (sym c.is_empty.ensures ∙ c.if-is_empty.false) in
    some_differ c.args.id c.args.digests.now c.args.own.now h c.push.new.self.items c.differing-request.result (omega (arith, c.bits-bits.ensures.below, c.bits-bits.ensures.value)) c.requires c.differing-request.ensures some
    (rw (c.in_ok-push.ensures.items, c.in_ok-messages.ensures, c.greater-horizon.ensures) refl)

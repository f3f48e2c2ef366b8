use Rattle.std.proofs.Common.{◌≤◌, length, arith}
use Rattle.std.proofs.lemmas.List.{take_all}
use Rattle.warm_world.specs.Replicas.{EncodesMessage}
use Rattle.warm_world.proofs.MessageLemmas.{encoded_more}
use Rattle.warm_world.proofs.PairLemmas.{Pairwise-nil}
use Rattle.warm_world.proofs.gossip.encoded.Goals as goal

pub loop-message-init : goal.loop-message-init
loop-message-init c = rw c.in_ok-all.ensures.items (Pairwise-nil (λ _ bytes message. EncodesMessage bytes message))

pub loop-message-preserved : goal.loop-message-preserved
loop-message-preserved c =
    encoded_more c.loop-message.all.items _ c.in_ok-encode.field-0 c.args.messages.now c.loop-message.message-index c.message-item.result c.loop-message.invariant
    (omega (arith, c.loop-message-test.true)) c.message-item.is c.in_ok-push.ensures.items (record { encodes = c.in_ok-encode.ensures.encodes; exact = c.in_ok-encode.ensures.exact })

pub returns : goal.returns
returns c =
    let past : length c.args.messages.now ≤ c.loop-message.message-index = omega (arith, c.loop-message-test.false) in
    rw (← take_all _ c.args.messages.now past) c.loop-message.invariant

use Rattle.std.proofs.Common.{◌<◌, length, sym, ◌∙◌, arith}
use Rattle.std.proofs.lemmas.Bool.{eqb-false}
use Rattle.warm_frames.proofs.ChunkLemmas.{pages_ascend_take, pages_ascend_drop, message_more}
use Rattle.warm_peer.proofs.answers.push_messages.Goals as goal

pub message_of-requires-clause-rise : goal.message_of-requires-clause-rise
message_of-requires-clause-rise c = pages_ascend_take c.min.result c.loop-rest.rest.now c.split_at.result.0.now c.split_at.ensures.front c.loop-rest.invariant.rise

pub loop-rest-preserved : goal.loop-rest-preserved
loop-rest-preserved c =
    let rest = c.loop-rest.rest.now in
    let some : 0 < length rest = omega (arith, eqb-false (length rest) 0 (sym c.is_empty.ensures ∙ c.loop-rest-test.true)) in
    record {
      rise = pages_ascend_drop c.min.result rest c.split_at.result.1.now c.split_at.ensures.back c.loop-rest.invariant.rise;
      goes_on = rw (c.in_ok-push.ensures.items, c.in_ok-message.ensures, c.split_at.ensures.front, c.split_at.ensures.back, c.min.ensures)
          (message_more c.args.id c.args.horizon c.loop-rest.messages.items rest some ∙ c.loop-rest.invariant.goes_on);
    }

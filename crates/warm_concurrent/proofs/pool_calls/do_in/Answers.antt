use Rattle.std.proofs.Common.{length}
use Rattle.warm_shard_machine.proofs.DoneCallLemmas.{only_done}
use Rattle.warm_concurrent.proofs.pool_calls.do_in.Goals as goal

pub unreachable-requires : goal.unreachable-requires
unreachable-requires g c =
    only_done (length c.args.turns.now.items) c.args.shard c.args.call c.in_ok-call_shard.field-0 c.requires.own c.in_ok-call_shard.ensures.may c.in_default.not-Done c.in_default.not-Refused

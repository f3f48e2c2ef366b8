use Rattle.warm_pool.proofs.FlushLemmas.{none_last, none_front}
use Rattle.warm_pool.proofs.close.let_all_go.Goals as goal

pub let_go-requires : goal.let_go-requires
let_go-requires g c = none_last _ _ _ _ c.in-Some.ensures.items c.loop-device.invariant

pub loop-device-preserved : goal.loop-device-preserved
loop-device-preserved g c = none_front _ _ _ _ c.in-Some.ensures.items c.loop-device.invariant

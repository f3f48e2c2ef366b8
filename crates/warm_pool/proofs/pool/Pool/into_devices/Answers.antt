use Rattle.warm_pool.proofs.EmptyLemmas.{unfixed_frames}
use Rattle.warm_pool.proofs.HandingBackLemmas.{hands_back}
use Rattle.warm_pool.proofs.pool.Pool.into_devices.Goals as goal

pub returns-in-Ok-clause-done : goal.returns-in-Ok-clause-done
returns-in-Ok-clause-done g c = record {
  unfixed = unfixed_frames _ c.in-Ok.ensures.unfixed;
  handed_back = hands_back _ _ _ c.in-Ok.ensures.down c.in-Ok.ensures.flushed c.take_apart.ensures.pool c.take_apart.ensures.devices;
}

pub returns-in-Err-clause-refused : goal.returns-in-Err-clause-refused
returns-in-Err-clause-refused g c = record {
  cause = c.in-Err.ensures.refused;
  once = c.in-Err.ensures.once;
}

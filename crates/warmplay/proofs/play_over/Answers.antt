use Rattle.std.proofs.lemmas.List.{length-map}
use Rattle.warmplay.proofs.DeviceCountLemmas.{few_listed}
use Rattle.warmplay.proofs.play_over.Goals as goal

pub play-played-requires : goal.play-played-requires
play-played-requires g c = record { few = few_listed _ _ c.loop-place.devices.items c.loop-place.invariant (λ list. length-map list.items _) }

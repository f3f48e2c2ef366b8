use Rattle.warm_pool.proofs.KeptPlaceLemmas.{pins_keep_places, unpins_keep_places, same_frames_keep_places, leaving_keeps_places}
use Rattle.warm_pool.proofs.laws.resident_pages_stay.Goals as goal

pub returns : goal.returns
returns c = record { pins = pins_keep_places; unpins = unpins_keep_places; same = same_frames_keep_places; leaving = leaving_keeps_places }

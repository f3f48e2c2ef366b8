use Rattle.std.proofs.Common.{◌<◌, length, subst}
use Rattle.std.proofs.lemmas.List.{length-map}
use Rattle.warm_frame_table.specs.Frames.{eviction_key}
use Rattle.warm_frame_table.specs.stored.Parts.{frames_of}
use Rattle.warm_frame_table.proofs.StoredLemmas.{within}
use Rattle.warm_frame_table.proofs.competing.CompetingCurrentKeys.key.Goals as goal

pub competing_key-requires : goal.competing_key-requires
competing_key-requires c =
    let seen : c.args.slot < length (frames_of c.args.self.now.pages.now c.args.self.now.statuses.now c.args.self.now.frames.now) = subst (λ n. c.args.slot < n) (length-map _ eviction_key) c.requires in
    let there = within c.args.self.now.pages.now c.args.self.now.statuses.now c.args.self.now.frames.now c.args.slot seen in
    record { seen = seen; page = there.0; status = there.1; frame = there.2 }

use Rattle.std.proofs.Common.{◌++◌, ap, sym, ◌∙◌}
use Rattle.warm_stamps.specs.Stamps.{stamp_at}
use Rattle.warm_maps.specs.PageHists.{latest_of, hist_stamps}
use Rattle.warm_maps.proofs.LatestLemmas.{latest_of_more}
use Rattle.warm_maps.proofs.PackedLemmas.{two_unpacked}
use Rattle.warm_maps.proofs.packed.Packed.joined.Goals as goal

-- both stamps are taken in, the older one first
pub returns : goal.returns
returns c =
    let two = c.more.inside in
    let last = stamp_at two.last two.last_replica in
    let prev = stamp_at two.prev two.prev_replica in
    let known = hist_stamps c.args.self in
    c.with-3.ensures
    ∙ latest_of_more last prev known c.with-2.result c.with-2.ensures
    ∙ ap (λ h. latest_of (hist_stamps h ++ known)) (sym (two_unpacked last prev c.if-more-eq0.false) ∙ c.more.view_is)

use Rattle.std.proofs.Common.{sym, ◌∙◌}
use Rattle.std.proofs.lemmas.Cmp.{nat_cmp_total}
use Rattle.std.specs.Ordering.{nat_cmp}
use Rattle.warm_maps.specs.MapPairs.{MapPairs}
use Rattle.warm_maps.proofs.RecordLemmas.{set_there}
use Rattle.warm_maps.proofs.walk.write.Goals as goal

pub returns-clause-entries : goal.returns-clause-entries
returns-clause-entries c =
    let old : MapPairs = c.args.map.now.entries in
    (c.get_mut.follows.holds c.args.hist).0 ∙ set_there nat_cmp nat_cmp_total c.args.key c.args.hist c.in-Some.known.now old c.get_mut.ensures.ordered (sym c.in-Some.ensures.value)

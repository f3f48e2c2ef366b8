use Rattle.std.proofs.Common.{◌<◌, sym, subst, length}
use Rattle.warm_maps.specs.MapPairs.{MapPairs}
use Rattle.warm_maps.proofs.RunPairs.{made_of}
use Rattle.warm_maps.proofs.walk.map_of.Goals as goal

pub returns-clause-same : goal.returns-clause-same
returns-clause-same c = made_of c.args.pairs.now c.in_ok-map.map c.requires c.in_ok-map.ensures

pub returns-clause-small : goal.returns-clause-small
returns-clause-small c = subst (λ (t : MapPairs). length t < 144115188075855872) (sym (returns-clause-same c)) c.if-pairs-ge-MAX_PAIRS.false

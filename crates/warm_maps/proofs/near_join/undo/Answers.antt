use Rattle.std.proofs.Common.{false, sym, subst}
use Rattle.warm_maps.specs.MapPairs.{MapPairs}
use Rattle.warm_maps.specs.NearJoins.{ArePutIn}
use Rattle.warm_maps.specs.Walks.{AreAbsent, SameElsewhere}
use Rattle.warm_maps.proofs.NearJoinLemmas.{same_with}
use Rattle.warm_maps.proofs.near_join.undo.Goals as goal

pub returns : goal.returns
returns c = λ old rise put.
    let now : MapPairs = c.args.map.now.entries in
    let fresh : MapPairs = c.args.added.now.fresh.items in
    let is : ArePutIn false fresh old now = subst (λ b. ArePutIn b fresh old now) c.if-added.false put in
    c.take_out.ensures old rise (subst (λ (t : MapPairs). AreAbsent t old) (sym c.deref.ensures.value) is.0) (subst (λ (t : MapPairs). SameElsewhere t old now) (sym c.deref.ensures.value) (same_with old fresh now is.1))

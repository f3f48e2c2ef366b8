-- The laws of visits that give.
use Rattle.std.proofs.Common.{◌≡◌, List, subst, refl}
use Rattle.std.specs.Prelude.{IfErr, OnOk}
use Rattle.warm_history.specs.ReferenceSets.{ReferenceSet, set_of_list}
use Rattle.warm_history.specs.Histories.{references_of}
use Rattle.warm_frames.specs.declared.message.Message.TheVariants.{Entries}
use Rattle.warm_gossip.specs.declared.fault.NodeFault.TheVariants.{Memory}
use Rattle.warm_gossip.specs.State.{NodeState}
use Rattle.warm_peer.specs.Answers.{refs_in}
use Rattle.warm_shards.specs.Clauses.{TakesInAll, TakesInFirst}
use Rattle.warm_shards.specs.Given.{Gives}
use Rattle.warm_shards.specs.Shards.{whole}
use Rattle.warm_shards.specs.VisitLaws.{EndsAlone, GivingIsOneNode}
use Rattle.warm_visits.specs.Visits.{VisitState, answers_of, result_of}
use Rattle.warm_shards.proofs.VisitSweeps.{alone_absorbs, alone_gives, alone_raises}

ends_so : (well : VisitState → List NodeState → Type 0) (S : ReferenceSet) (old new : List NodeState)
    (w : VisitState) → Gives S old (result_of w.stopped) new
    → (TakesInAll old S new → well w new) → EndsAlone well S old w new
ends_so well S old new w gives so = record {
  done = λ is. so (subst (λ b. OnOk (result_of b) (TakesInAll old S new)) is gives.given);
  stopped = λ is. (subst (λ b. IfErr (result_of b) (λ why. (why ≡ Memory) × TakesInFirst old S new)) is gives.refused).1;
  pools = gives.pools;
  shards = gives.shards;
  id = gives.id;
}

pub giving_is_one_node : GivingIsOneNode
giving_is_one_node = record {
  absorbs = λ batch old new w are gone over. ends_so _ (set_of_list batch) old new w (alone_absorbs old new w batch _ _ are refl gone over) (λ all. all);
  raises = λ time old new w are gone over.
      let rose = alone_raises old new _ w _ _ time are refl refl gone over in
      ((whole new).horizon, rose.well, rose.kept, rose.given.shards, (λ pool. (rose.given.given pool, refl)), rose.given.pools);
  entries = λ sender horizon es old new w are gone over.
      let gave = alone_gives old new w (refs_in (Entries sender horizon es)) _ _ are refl gone over in
      ends_so _ (refs_in (Entries sender horizon es)) old new w gave.gives (λ all pool. ((λ i. answers_of (gave.makes i) (gave.ends i)), all pool));
  joins = λ h old new w are gone over.
      let gave = alone_gives old new w (references_of h) _ _ are refl gone over in
      ends_so _ (references_of h) old new w gave.gives (λ all. all);
}

use Rattle.std.proofs.Common.{List, ◌++◌, sym, ap, subst, ◌∙◌}
use Rattle.warm_concurrent.specs.Opening.{AreNumbered, openings}
use Rattle.warm_shard_machine.specs.ShardSteps.{ShardState}
use Rattle.warm_concurrent.proofs.ShardNumberLemmas.{turns_numbered, turns_opened}
use Rattle.warm_concurrent.proofs.sharing.Sharing.share.Goals as goal

pub invariant_of-result-2 : goal.invariant_of-result-2
invariant_of-result-2 g c =
    let turns = c.put_all.new.turns.items in
    let whole = sym (ap (λ (l : List ShardState). l ++ openings turns) c.in_default.ensures.all) ∙ c.in_default.ensures.same in
    let id = c.self.inside.id in
    let are = subst (AreNumbered id) (sym whole) c.self.invariant.1 in
    (turns_numbered id turns are, turns_opened id turns are)

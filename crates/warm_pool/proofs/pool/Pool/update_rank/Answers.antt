use Rattle.warm_pool.proofs.FrameChoiceLemmas.{found_there, found_holds, found_nowhere}
use Rattle.warm_pool.proofs.RefreshingLemmas.{renewed_pool, renewed_view, renews, renews_none}
use Rattle.warm_pool.proofs.pool.Pool.update_rank.Goals as goal

pub rank-requires : goal.rank-requires
rank-requires g c = record {
  there = found_there c.self.invariant _ _ c.in-Some.ensures;
  held = λ none. let holds = found_holds c.self.invariant c.args.page _ c.in-Some.ensures in absurd (cc);
}

pub invariant_of-self : goal.invariant_of-self
invariant_of-self g c =
    renewed_pool c.self.inside.frames c.rank.new.self c.self.invariant c.in-Some.at c.args.page c.rank_of-key.result _ c.rank_of-key.ensures c.rank.ensures
    (found_there c.self.invariant _ _ c.in-Some.ensures) (found_holds c.self.invariant _ _ c.in-Some.ensures)

pub returns-in-Some-clause-same : goal.returns-in-Some-clause-same
returns-in-Some-clause-same g c = rw (← c.self.view_is) (
    renewed_view c.self.inside.frames c.rank.new.self c.self.invariant c.in-Some.at c.args.page c.rank_of-key.result _ c.rank_of-key.ensures c.rank.ensures
    (found_there c.self.invariant _ _ c.in-Some.ensures) (found_holds c.self.invariant _ _ c.in-Some.ensures))

pub returns-in-Some-clause-keys : goal.returns-in-Some-clause-keys
returns-in-Some-clause-keys g c = rw (← c.self.view_is) (
    renews c.self.inside.frames c.rank.new.self c.self.invariant c.in-Some.at c.args.page c.rank_of-key.result _ c.rank_of-key.ensures c.rank.ensures
    (found_there c.self.invariant _ _ c.in-Some.ensures) (found_holds c.self.invariant _ _ c.in-Some.ensures))

pub returns-in_default-clause-keys : goal.returns-in_default-clause-keys
returns-in_default-clause-keys g c = rw (← c.self.view_is) (renews_none c.self.invariant _ _ (found_nowhere c.self.invariant _ c.in_default.ensures))

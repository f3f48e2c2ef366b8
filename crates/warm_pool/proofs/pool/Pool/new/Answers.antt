use Rattle.std.proofs.Common.{◌≤◌, [], length, sym, subst}
use Rattle.std.proofs.lemmas.List.{length-map}
use Rattle.warm_pool.proofs.OpeningLemmas.{opened_state, opened_pool, opened_ranked}
use Rattle.warm_pool.proofs.pool.Pool.new.Goals as goal

pub invariant_of-result : goal.invariant_of-result
invariant_of-result g c =
    let shape = rw c.deref.ensures.value at c.in-Ok.ensures.shape in
    opened_pool c.in-Ok.frames _ c.args.frames c.args.page_size _ c.in-Ok.ensures.made.0 c.in-Ok.ensures.made.1 shape.0 shape.1
    (subst (λ n. n ≤ 65536) (sym (length-map _ _)) c.requires.few)

pub returns-in-Ok-clause-opened : goal.returns-in-Ok-clause-opened
returns-in-Ok-clause-opened g c = opened_state c.in-Ok.frames _ c.args.frames c.args.page_size _ c.in-Ok.ensures.made.0 c.in-Ok.ensures.made.1

pub returns-in-Ok-clause-ranked : goal.returns-in-Ok-clause-ranked
returns-in-Ok-clause-ranked g c = opened_ranked c.in-Ok.frames (length c.in-Ok.spare.items) c.args.frames c.args.page_size [] c.in-Ok.ensures.made.0 c.in-Ok.ensures.made.1

use Rattle.std.proofs.Common.{◌≡◌, false, sym, subst, ◌∙◌}
use Rattle.std.specs.Ordering.{is_gt}
use Rattle.warm_rank.specs.Slots.{key_at, set_first_cmp}
use Rattle.warm_rank.specs.Behind.{AreRepaired}
use Rattle.warm_rank.specs.Keys.{key_cmp}
use Rattle.warm_rank.proofs.KeyLemmas.{key_order}
use Rattle.warm_rank.proofs.BehindLemmas.{one_repaired, still_behind, least_some}
use Rattle.warm_rank.proofs.slots.Contest.settle.Goals as goal

pub returns-then-not-comes_before-clause-least : goal.returns-then-not-comes_before-clause-least
returns-then-not-comes_before-clause-least g c =
    let keys : _ = g.C.CurrentKeys.keys c.args.current.now in
    let tree : _ = c.loop-repair.self in
    let low : is_gt (set_first_cmp key_cmp c.key-key.result (key_at tree c.in-Some.at)) ≡ false =
    subst (λ keys. is_gt (set_first_cmp key_cmp c.key-key.result (key_at keys c.in-Some.at)) ≡ false) c.self-in-loop-repair.view_is (sym c.comes_before.ensures ∙ c.if-not-comes_before.true)
    in
    least_some key_cmp key_order tree keys c.in-Some.at (still_behind key_cmp key_order c.args.self.now keys tree c.requires c.loop-repair.invariant) c.in-Some.ensures
    (subst (λ x. is_gt (set_first_cmp key_cmp x (key_at tree c.in-Some.at)) ≡ false) c.key-key.ensures low)

pub loop-repair-preserved : goal.loop-repair-preserved
loop-repair-preserved g c =
    let keys : _ = g.C.CurrentKeys.keys c.args.current.now in
    subst (AreRepaired c.args.self.now keys) (sym c.set.ensures)
    (one_repaired c.args.self.now keys c.loop-repair.self c.in-Some.at c.key-key.result c.loop-repair.invariant c.in-Some.ensures.in_range c.key-key.ensures)

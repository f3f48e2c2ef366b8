use Rattle.std.proofs.Common.{length, sym, ap, subst, ◌∙◌}
use Rattle.warm_rank.specs.Slots.{IsLeast}
use Rattle.warm_rank.specs.Keys.{key_cmp}
use Rattle.warm_rank.specs.WinnerTree.{HasLeaves}
use Rattle.warm_rank.proofs.VacantLemmas.{length-keys_while, none_cleared}
use Rattle.warm_rank.proofs.slots.Contest.clear_vacant.Goals as goal

pub returns-in_default : goal.returns-in_default
returns-in_default g c = none_cleared c.args.held.now c.args.self.now (subst (IsLeast key_cmp c.args.self.now) c.in_default.is c.least.ensures)

pub play_all-requires : goal.play_all-requires
play_all-requires g c =
    let count : _ = ap length c.clear_vacant.ensures ∙ length-keys_while c.args.held.now c.self.inside.keys in
    subst (λ n. HasLeaves n c.self.inside.nodes.items) (sym count) c.self.invariant.shape

use Rattle.std.proofs.Common.{subst, sym, ◌∙◌, Some, None}
use Rattle.warm_rank.specs.Keys.{key_cmp}
use Rattle.warm_rank.specs.Slots.{IsLeast}
use Rattle.warm_rank.proofs.KeyLemmas.{key_order}
use Rattle.warm_rank.proofs.WinnerLemmas.{least_read}
use Rattle.warm_rank.proofs.slots.Contest.least.Goals as goal

pub is_set-requires : goal.is_set-requires
is_set-requires c = (least_read key_cmp key_order.total _ _ c.self.invariant _ c.index.ensures).within

pub returns-then-is_set : goal.returns-then-is_set
returns-then-is_set c =
    subst (λ keys. IsLeast key_cmp keys (Some c.index.result.now)) c.self.view_is ((least_read key_cmp key_order.total _ _ c.self.invariant _ c.index.ensures).some (sym c.is_set.ensures ∙ c.if-is_set.true))

pub returns-else-is_set : goal.returns-else-is_set
returns-else-is_set c =
    subst (λ keys. IsLeast key_cmp keys None) c.self.view_is ((least_read key_cmp key_order.total _ _ c.self.invariant _ c.index.ensures).none (sym c.is_set.ensures ∙ c.if-is_set.false))

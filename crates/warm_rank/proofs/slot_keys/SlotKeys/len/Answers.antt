use Rattle.std.proofs.Common.{◌≡◌, length, sym, ap, ◌∙◌, arith}
use Rattle.warm_rank.proofs.SetKeyLemmas.{length-keys_set}
use Rattle.warm_rank.proofs.slot_keys.SlotKeys.len.Goals as goal

pub returns : goal.returns
returns c =
    let count : length c.args.self.now ≡ length c.self.inside.is_set.items = ap length (sym c.self.view_is) ∙ length-keys_set _ _ c.self.invariant in
    omega arith

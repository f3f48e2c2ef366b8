use Rattle.std.proofs.Common.{◌≡◌, length, sym, ap, ◌∙◌, arith}
use Rattle.warm_rank.proofs.SetKeyLemmas.{length-keys_set}
use Rattle.warm_rank.proofs.slot_keys.SlotKeys.compare.Goals as goal

pub compare_set-requires-clause-first : goal.compare_set-requires-clause-first
compare_set-requires-clause-first c =
    let count : length c.args.self.now ≡ length c.self.inside.is_set.items = ap length (sym c.self.view_is) ∙ length-keys_set _ _ c.self.invariant in
    omega (arith, c.requires.first)

pub compare_set-requires-clause-second : goal.compare_set-requires-clause-second
compare_set-requires-clause-second c =
    let count : length c.args.self.now ≡ length c.self.inside.is_set.items = ap length (sym c.self.view_is) ∙ length-keys_set _ _ c.self.invariant in
    omega (arith, c.requires.second)

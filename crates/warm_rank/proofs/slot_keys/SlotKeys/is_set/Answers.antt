use Rattle.std.proofs.Common.{◌≡◌, ◌<◌, length, sym, ap, ◌∙◌, is_some, arith}
use Rattle.warm_rank.specs.Slots.{key_at}
use Rattle.warm_rank.proofs.SetKeyLemmas.{length-keys_set, set_read}
use Rattle.warm_rank.proofs.slot_keys.SlotKeys.is_set.Goals as goal

pub index-requires : goal.index-requires
index-requires c =
    let count : length c.args.self.now ≡ length c.self.inside.is_set.items = ap length (sym c.self.view_is) ∙ length-keys_set _ _ c.self.invariant in
    omega (arith, c.requires)

pub returns : goal.returns
returns c =
    let count : length c.args.self.now ≡ length c.self.inside.is_set.items = ap length (sym c.self.view_is) ∙ length-keys_set _ _ c.self.invariant in
    let there : c.args.slot < length c.self.inside.is_set.items = omega (arith, c.requires) in
    set_read c.self.inside.is_set.items c.self.inside.keys.items c.args.slot _ c.self.invariant there c.index.ensures ∙ ap (λ keys. is_some (key_at keys c.args.slot)) c.self.view_is

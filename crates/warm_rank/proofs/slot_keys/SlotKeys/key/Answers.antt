use Rattle.std.proofs.Common.{◌≡◌, ◌<◌, length, get_or, Some, false, true, sym, ap, ◌∙◌, arith}
use Rattle.std.proofs.lemmas.List.{get_or_read}
use Rattle.warm_rank.specs.Slots.{key_at}
use Rattle.warm_rank.proofs.SetKeyLemmas.{length-keys_set, key_is, key_unset}
use Rattle.warm_rank.proofs.slot_keys.SlotKeys.key.Goals as goal

pub index-requires : goal.index-requires
index-requires c =
    let count : length c.args.self.now ≡ length c.self.inside.is_set.items = ap length (sym c.self.view_is) ∙ length-keys_set _ _ c.self.invariant in
    omega (arith, c.requires)

pub index-requires-then-index : goal.index-requires-then-index
index-requires-then-index c =
    let count : length c.args.self.now ≡ length c.self.inside.is_set.items = ap length (sym c.self.view_is) ∙ length-keys_set _ _ c.self.invariant in
    omega (arith, c.requires, c.self.invariant, c.self.inside.keys.ok.0)

pub returns-then-index : goal.returns-then-index
returns-then-index c =
    let all : _ = c.self.inside.is_set.items in
    let count : length c.args.self.now ≡ length all = ap length (sym c.self.view_is) ∙ length-keys_set _ _ c.self.invariant in
    let there : c.args.slot < length all = omega (arith, c.requires) in
    let is : get_or all c.args.slot false ≡ true = sym (get_or_read all c.args.slot c.index.result.now there c.index.ensures false) ∙ c.if-index.true in
    ap Some c.get.ensures ∙ sym (key_is all c.self.inside.keys.items c.args.slot c.index-then-index.result.now c.self.invariant there is c.index-then-index.ensures) ∙ ap (λ keys. key_at keys c.args.slot) c.self.view_is

pub returns : goal.returns
returns c =
    let all : _ = c.self.inside.is_set.items in
    let count : length c.args.self.now ≡ length all = ap length (sym c.self.view_is) ∙ length-keys_set _ _ c.self.invariant in
    let there : c.args.slot < length all = omega (arith, c.requires) in
    let is : get_or all c.args.slot false ≡ false = sym (get_or_read all c.args.slot c.index.result.now there c.index.ensures false) ∙ c.if-index.false in
    sym (key_unset all c.self.inside.keys.items c.args.slot c.self.invariant there is) ∙ ap (λ keys. key_at keys c.args.slot) c.self.view_is

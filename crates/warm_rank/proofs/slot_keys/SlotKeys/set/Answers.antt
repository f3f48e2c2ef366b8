use Rattle.std.proofs.Common.{◌≡◌, length, sym, ap, ◌∙◌, set, Some, None, arith}
use Rattle.warm_rank.proofs.SetKeyLemmas.{length-keys_set, set_there, unset_there}
use Rattle.warm_rank.proofs.slot_keys.SlotKeys.set.Goals as goal

pub index_mut-requires : goal.index_mut-requires
index_mut-requires c =
    let count : length c.args.self.now ≡ length c.self.inside.is_set.items = ap length (sym c.self.view_is) ∙ length-keys_set _ _ c.self.invariant in
    omega (arith, c.requires)

pub index_mut-requires-in-Some : goal.index_mut-requires-in-Some
index_mut-requires-in-Some c =
    let count : length c.args.self.now ≡ length c.self.inside.is_set.items = ap length (sym c.self.view_is) ∙ length-keys_set _ _ c.self.invariant in
    omega (arith, c.requires)

pub index_mut-requires-in-Some-2 : goal.index_mut-requires-in-Some-2
index_mut-requires-in-Some-2 c =
    let count : length c.args.self.now ≡ length c.self.inside.is_set.items = ap length (sym c.self.view_is) ∙ length-keys_set _ _ c.self.invariant in
    let same = c.self.invariant in
    omega (arith, c.requires)

pub returns-in-None : goal.returns-in-None
returns-in-None c = unset_there _ _ c.args.slot ∙ ap (λ slots. set slots c.args.slot None) c.self.view_is ∙ ap (set c.args.self.now c.args.slot) (sym c.in-None.is)

pub returns-in-Some : goal.returns-in-Some
returns-in-Some c = set_there _ _ c.args.slot _ ∙ ap (λ slots. set slots c.args.slot (Some c.of.result)) c.self.view_is ∙ ap (set c.args.self.now c.args.slot) (ap Some c.of.ensures ∙ sym c.in-Some.is)

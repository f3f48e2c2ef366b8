use Rattle.std.proofs.Common.{◌≡◌, ◌<◌, length, get_or, false, true, sym, ap, ◌∙◌, Some, None, arith}
use Rattle.std.proofs.lemmas.List.{get_or_read}
use Rattle.std.specs.Ordering.{is_gt}
use Rattle.warm_rank.specs.Keys.{key_cmp}
use Rattle.warm_rank.specs.Slots.{key_at, set_first_cmp}
use Rattle.warm_rank.proofs.SetKeyLemmas.{length-keys_set, key_is, key_unset, some_key, none_after}
use Rattle.warm_rank.proofs.slot_keys.SlotKeys.comes_before.Goals as goal

pub index-requires : goal.index-requires
index-requires c =
    let count : length c.args.self.now ≡ length c.self.inside.is_set.items = ap length (sym c.self.view_is) ∙ length-keys_set _ _ c.self.invariant in
    omega (arith, c.requires)

pub index-requires-in-Some : goal.index-requires-in-Some
index-requires-in-Some c =
    let count : length c.args.self.now ≡ length c.self.inside.is_set.items = ap length (sym c.self.view_is) ∙ length-keys_set _ _ c.self.invariant in
    omega (arith, c.requires, c.self.invariant, c.self.inside.keys.ok.0)

pub returns-then-not-index : goal.returns-then-not-index
returns-then-not-index c =
    let all : _ = c.self.inside.is_set.items in
    let keys : _ = c.self.inside.keys.items in
    let count : length c.args.self.now ≡ length all = ap length (sym c.self.view_is) ∙ length-keys_set _ _ c.self.invariant in
    let there : c.args.slot < length all = omega (arith, c.requires) in
    let is : get_or all c.args.slot false ≡ false = sym (get_or_read all c.args.slot c.index.result.now there c.index.ensures false) ∙ c.if-not-index.true in
    let key : key_at c.args.self.now c.args.slot ≡ None = ap (λ ks. key_at ks c.args.slot) (sym c.self.view_is) ∙ key_unset all keys c.args.slot c.self.invariant there is in
    none_after key_cmp c.args.key.now ∙ ap (λ k. is_gt (set_first_cmp key_cmp c.args.key.now k)) (sym key)

pub returns-in-None : goal.returns-in-None
returns-in-None c =
    let all : _ = c.self.inside.is_set.items in
    let keys : _ = c.self.inside.keys.items in
    let count : length c.args.self.now ≡ length all = ap length (sym c.self.view_is) ∙ length-keys_set _ _ c.self.invariant in
    let there : c.args.slot < length all = omega (arith, c.requires) in
    let is : get_or all c.args.slot false ≡ true = sym (get_or_read all c.args.slot c.index.result.now there c.index.ensures false) ∙ c.if-not-index.false in
    let some = some_key all keys c.args.slot c.self.invariant there is in
    let key : key_at c.args.self.now c.args.slot ≡ Some some.0 = ap (λ ks. key_at ks c.args.slot) (sym c.self.view_is) ∙ some.1 in
    ap (λ k. is_gt (set_first_cmp key_cmp None k)) (sym key) ∙ ap (λ k. is_gt (set_first_cmp key_cmp k (key_at c.args.self.now c.args.slot))) (sym c.in-None.is)

pub returns-in-Some : goal.returns-in-Some
returns-in-Some c =
    let all : _ = c.self.inside.is_set.items in
    let keys : _ = c.self.inside.keys.items in
    let count : length c.args.self.now ≡ length all = ap length (sym c.self.view_is) ∙ length-keys_set _ _ c.self.invariant in
    let there : c.args.slot < length all = omega (arith, c.requires) in
    let is : get_or all c.args.slot false ≡ true = sym (get_or_read all c.args.slot c.index.result.now there c.index.ensures false) ∙ c.if-not-index.false in
    let key : key_at c.args.self.now c.args.slot ≡ Some c.index-in-Some.result.now = ap (λ ks. key_at ks c.args.slot) (sym c.self.view_is) ∙ key_is all keys c.args.slot c.index-in-Some.result.now c.self.invariant there is c.index-in-Some.ensures in
    c.is_gt.ensures ∙ ap is_gt c.compare.ensures ∙ ap (λ k. is_gt (key_cmp k c.index-in-Some.result.now)) c.of.ensures
    ∙ ap (λ k. is_gt (set_first_cmp key_cmp (Some c.in-Some.key) k)) (sym key) ∙ ap (λ k. is_gt (set_first_cmp key_cmp k (key_at c.args.self.now c.args.slot))) (sym c.in-Some.is)

use Rattle.std.proofs.Common.{◌≡◌, ◌<◌, length, sym, ap, ◌∙◌, is_some, nat_lt, None, arith, rules}
use Rattle.std.specs.Ordering.{is_gt, nat_cmp}
use Rattle.warm_rank.specs.Keys.{key_cmp}
use Rattle.warm_rank.specs.Slots.{key_at}
use Rattle.warm_rank.proofs.SetKeyLemmas.{length-keys_set, set_read}
use Rattle.warm_rank.proofs.VacantLemmas.{none_there, after_some, after_none}
use Rattle.warm_rank.proofs.slot_keys.SlotKeys.is_after.Goals as goal

pub index-requires : goal.index-requires
index-requires c =
    let count : length c.args.self.now ≡ length c.self.inside.is_set.items = ap length (sym c.self.view_is) ∙ length-keys_set _ _ c.self.invariant in
    omega (arith, c.requires.first)

pub index-requires-then-not-index : goal.index-requires-then-not-index
index-requires-then-not-index c =
    let count : length c.args.self.now ≡ length c.self.inside.is_set.items = ap length (sym c.self.view_is) ∙ length-keys_set _ _ c.self.invariant in
    omega (arith, c.requires.second)

pub returns-then-index : goal.returns-then-index
returns-then-index c =
    let all : _ = c.self.inside.is_set.items in
    let keys : _ = c.self.inside.keys.items in
    let a = c.args.a in
    let b = c.args.b in
    let count : length c.args.self.now ≡ length all = ap length (sym c.self.view_is) ∙ length-keys_set _ _ c.self.invariant in
    let a_there : a < length all = omega (arith, c.requires.first) in
    let b_there : b < length all = omega (arith, c.requires.second) in
    let a_is = set_read all keys a _ c.self.invariant a_there c.index.ensures ∙ ap (λ keys. is_some (key_at keys a)) c.self.view_is in
    let b_is = set_read all keys b _ c.self.invariant b_there c.index-then-not-index.ensures ∙ ap (λ keys. is_some (key_at keys b)) c.self.view_is in
    c.if-index.true ∙ sym (after_some key_cmp c.args.self.now a b (none_there (key_at c.args.self.now a) (sym a_is ∙ c.if-not-index.true)) (sym b_is ∙ c.if-index.true))

pub returns-else-index : goal.returns-else-index
returns-else-index c =
    let all : _ = c.self.inside.is_set.items in
    let keys : _ = c.self.inside.keys.items in
    let a = c.args.a in
    let b = c.args.b in
    let count : length c.args.self.now ≡ length all = ap length (sym c.self.view_is) ∙ length-keys_set _ _ c.self.invariant in
    let a_there : a < length all = omega (arith, c.requires.first) in
    let b_there : b < length all = omega (arith, c.requires.second) in
    let a_is = set_read all keys a _ c.self.invariant a_there c.index.ensures ∙ ap (λ keys. is_some (key_at keys a)) c.self.view_is in
    let b_is = set_read all keys b _ c.self.invariant b_there c.index-then-not-index.ensures ∙ ap (λ keys. is_some (key_at keys b)) c.self.view_is in
    let order : nat_lt b a ≡ is_gt (nat_cmp a b) = search rules in
    order ∙ sym (after_none key_cmp c.args.self.now a b (none_there (key_at c.args.self.now a) (sym a_is ∙ c.if-not-index.true)) (sym b_is ∙ c.if-index.false))

pub is_after_by_time-requires-clause-first : goal.is_after_by_time-requires-clause-first
is_after_by_time-requires-clause-first c =
    let count : length c.args.self.now ≡ length c.self.inside.is_set.items = ap length (sym c.self.view_is) ∙ length-keys_set _ _ c.self.invariant in
    omega (arith, c.requires.first)

pub is_after_by_time-requires-clause-second : goal.is_after_by_time-requires-clause-second
is_after_by_time-requires-clause-second c =
    let count : length c.args.self.now ≡ length c.self.inside.is_set.items = ap length (sym c.self.view_is) ∙ length-keys_set _ _ c.self.invariant in
    omega (arith, c.requires.second)

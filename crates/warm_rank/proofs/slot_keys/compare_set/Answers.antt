use Rattle.std.proofs.Common.{sym, ◌∙◌}
use Rattle.std.proofs.Math.Path.{ap₂}
use Rattle.warm_rank.specs.Keys.{key_cmp}
use Rattle.warm_rank.specs.Slots.{set_first_cmp}
use Rattle.warm_rank.proofs.SetKeyLemmas.{key_unset, some_key, key_is}
use Rattle.warm_rank.proofs.slot_keys.compare_set.Goals as goal

pub returns-then-is_set-b : goal.returns-then-is_set-b
returns-then-is_set-b c =
    let all : _ = c.args.is_set.now in
    let keys : _ = c.args.keys.now in
    sym (ap₂ (set_first_cmp key_cmp) (key_unset all keys c.args.a c.requires.same c.requires.first c.if-not-is_set-a.true) (some_key all keys c.args.b c.requires.same c.requires.second c.if-is_set-b.true).1)

pub returns-else-is_set-b : goal.returns-else-is_set-b
returns-else-is_set-b c =
    let all : _ = c.args.is_set.now in
    let keys : _ = c.args.keys.now in
    sym (ap₂ (set_first_cmp key_cmp) (key_unset all keys c.args.a c.requires.same c.requires.first c.if-not-is_set-a.true) (key_unset all keys c.args.b c.requires.same c.requires.second c.if-is_set-b.false))

pub returns-then-not-is_set-b : goal.returns-then-not-is_set-b
returns-then-not-is_set-b c =
    let all : _ = c.args.is_set.now in
    let keys : _ = c.args.keys.now in
    sym (ap₂ (set_first_cmp key_cmp) (some_key all keys c.args.a c.requires.same c.requires.first c.if-not-is_set-a.false).1 (key_unset all keys c.args.b c.requires.same c.requires.second c.if-not-is_set-b.true))

pub returns : goal.returns
returns c =
    let all : _ = c.args.is_set.now in
    let keys : _ = c.args.keys.now in
    let a = key_is all keys c.args.a c.index-keys-a.result c.requires.same c.requires.first c.if-not-is_set-a.false c.index-keys-a.is in
    let b = key_is all keys c.args.b c.index-keys-b.result c.requires.same c.requires.second c.if-not-is_set-b.false c.index-keys-b.is in
    c.compare.ensures ∙ sym (ap₂ (set_first_cmp key_cmp) a b)

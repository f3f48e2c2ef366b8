use Rattle.std.proofs.Common.{◌≡◌, sym, subst, cond, IfSome}
use Rattle.std.proofs.Math.Path.{ap₂}
use Rattle.std.specs.declared.cmp.Ordering.TheVariants.{Greater, Less}
use Rattle.warm_rank.specs.Keys.{key_cmp}
use Rattle.warm_rank.specs.Slots.{set_first_cmp}
use Rattle.warm_rank.proofs.SetKeyLemmas.{key_is}
use Rattle.warm_rank.proofs.slot_keys.is_after_by_time.Goals as goal

pub returns : goal.returns
returns c =
    let all : _ = c.args.is_set.now in
    let keys : _ = c.args.keys.now in
    let a = key_is all keys c.args.a c.index-keys-a.result c.requires.same c.requires.first c.if-not-is_set-a.false c.index-keys-a.is in
    let b = key_is all keys c.args.b c.index-keys-b.result c.requires.same c.requires.second c.if-not-is_set-b.false c.index-keys-b.is in
    subst (λ o. IfSome c.is_after_by_time.result (λ is_after. o ≡ cond is_after Greater Less)) (sym (ap₂ (set_first_cmp key_cmp) a b)) c.is_after_by_time.ensures

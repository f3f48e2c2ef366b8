use Rattle.std.proofs.Common.{◌∙◌, subst, arith}
use Rattle.std.proofs.lemmas.Result.{IfOk-weaker}
use Rattle.warm_rank.specs.Greatest.{AreGreatest}
use Rattle.warm_rank.specs.Keys.{key_cmp}
use Rattle.warm_rank.proofs.KeyLemmas.{derived_order}
use Rattle.warm_rank.proofs.WarmUpLemmas.{keys_from_greatest, keys_from_all}
use Rattle.warm_rank.proofs.warm_up.hottest_keys.Goals as goal

pub returns-then-n-keys : goal.returns-then-n-keys
returns-then-n-keys c =
    let top = c.greatest.result.now in
    let sorted = c.descending_keys.new.keys in
    let great : AreGreatest key_cmp c.args.keys.now c.args.n top = subst (λ cmp. AreGreatest cmp c.args.keys.now c.args.n top) derived_order c.greatest.ensures in
    IfOk-weaker c.descending_keys.result _ _
    (λ hot is S given. is ∙ keys_from_greatest S c.args.n c.args.keys.now top sorted given great c.descending_keys.ensures.same_keys c.descending_keys.ensures.sorted)
    c.descending_keys.ensures.turned

pub returns : goal.returns
returns c =
    let sorted = c.descending_keys-2.new.keys in
    IfOk-weaker c.descending_keys-2.result _ _
    (λ hot is S given. is ∙ keys_from_all S c.args.n c.args.keys.now sorted given (omega arith) c.descending_keys-2.ensures.same_keys c.descending_keys-2.ensures.sorted)
    c.descending_keys-2.ensures.turned

use Rattle.std.proofs.Common.{subst, sym}
use Rattle.std.specs.List.Sorted.{IsPermutation}
use Rattle.std.proofs.lemmas.List.Sorted.{IsPermutation-map}
use Rattle.std.proofs.lemmas.Result.{IfOk-weaker}
use Rattle.warm_history.specs.Histories.{entries_of}
use Rattle.warm_rank.specs.Keys.{entry_key}
use Rattle.warm_rank.specs.WarmUp.{entry_keys}
use Rattle.warm_rank.proofs.warm_up.keys_of.Goals as goal

pub returns : goal.returns
returns c =
    let given = IsPermutation-map entry_key (entries_of c.args.history.now) c.unordered.result c.unordered.ensures in
    IfOk-weaker c.keys_of_entries.result _ _ (λ keys is. subst (IsPermutation (entry_keys c.args.history.now)) (sym is) given) c.keys_of_entries.ensures

use Rattle.std.proofs.Common.{◌∙◌, ap, map}
use Rattle.std.proofs.lemmas.Result.{IfOk-weaker}
use Rattle.warm_rank.specs.Keys.{ranked_page}
use Rattle.warm_rank.proofs.FallingLemmas.{warm_from_hottest}
use Rattle.warm_rank.proofs.warm_up.warm_list.Goals as goal

pub returns : goal.returns
returns c =
    let same = c.deref.ensures.value ∙ c.hot.view_is in
    IfOk-weaker c.pages_of.result _ _ (λ pages is S stands. is ∙ ap (map ranked_page) same ∙ warm_from_hottest c.args.history.now c.args.n c.in_ok-hot.hot c.in_ok-hot.ensures S stands) c.pages_of.ensures

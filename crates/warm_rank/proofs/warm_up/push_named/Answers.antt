use Rattle.std.proofs.Common.{◌∙◌, ◌++◌, [], ◌∷◌, ap}
use Rattle.warm_rank.proofs.FallingLemmas.{known_added, unknown_added}
use Rattle.warm_rank.proofs.warm_up.push_named.Goals as goal

pub returns-in_default : goal.returns-in_default
returns-in_default c = unknown_added c.args.history.now c.args.page c.args.keys.now.items c.requires c.in_default.ensures

pub returns : goal.returns
returns c =
    c.in_ok-push.ensures.items
    ∙ ap (λ k. c.args.keys.now.items ++ k ∷ []) c.of_entry.ensures
    ∙ known_added c.args.history.now c.args.page c.in-Some.hist c.args.keys.now.items c.requires c.in-Some.ensures

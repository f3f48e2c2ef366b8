use Rattle.std.proofs.Common.{ap, ◌∙◌}
use Rattle.warm_rank.specs.Keys.{key_cmp, rank_key}
use Rattle.warm_rank.proofs.KeyLemmas.{derived-key_cmp, known_keys_rank}
use Rattle.warm_rank.proofs.eviction_order.Goals as goal

pub returns : goal.returns
returns c = λ S stands.
    c.cmp.ensures
    ∙ derived-key_cmp c.key_of-key.result c.key_of-other_key.result
    ∙ ap (λ k. key_cmp k c.key_of-other_key.result) c.key_of-key.ensures
    ∙ ap (key_cmp (rank_key c.args.page c.get.result)) c.key_of-other_key.ensures
    ∙ known_keys_rank S c.args.page c.args.other c.get.result c.get-2.result (c.get.ensures S stands) (c.get-2.ensures S stands)

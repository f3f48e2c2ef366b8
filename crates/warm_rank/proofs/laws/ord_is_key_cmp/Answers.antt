use Rattle.warm_rank.proofs.KeyLemmas.{derived-key_cmp}
use Rattle.warm_rank.proofs.laws.ord_is_key_cmp.Goals as goal

pub returns : goal.returns
returns c = derived-key_cmp

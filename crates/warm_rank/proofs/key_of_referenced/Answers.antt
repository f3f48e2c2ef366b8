use Rattle.std.proofs.Common.{ap, sym, Some}
use Rattle.warm_rank.specs.Keys.{rank_key}
use Rattle.warm_rank.proofs.key_of_referenced.Goals as goal

pub returns-in-Once : goal.returns-in-Once
returns-in-Once c = ap (λ h. rank_key c.args.page (Some h)) (sym c.in-Once.is)

use Rattle.std.proofs.Common.{ap, sym}
use Rattle.warm_rank.specs.Keys.{ranked_page}
use Rattle.warm_rank.proofs.RankKey.page.Goals as goal

pub returns-in-Once : goal.returns-in-Once
returns-in-Once c = ap ranked_page (sym c.in-Once.is)

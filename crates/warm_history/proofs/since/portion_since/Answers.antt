use Rattle.warm_history.specs.Since.{recent_entries}
use Rattle.warm_history.proofs.SinceLemmas.{left_more}
use Rattle.warm_history.proofs.since.portion_since.Goals as goal

pub returns-clause-more : goal.returns-clause-more
returns-clause-more c = left_more c.args.limit (recent_entries c.args.since c.args.ahead) _ _ c.has_next.ensures c.in_ok-entries.ensures.rest

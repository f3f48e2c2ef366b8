use Rattle.warm_concurrent.proofs.OwnPageLemmas.{shards_hold_their_pages}
use Rattle.warm_concurrent.proofs.laws.shards_hold_their_pages.Goals as goal

pub returns : goal.returns
returns c = shards_hold_their_pages

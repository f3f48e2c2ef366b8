use Rattle.std.proofs.Common.{◌∙◌}
use Rattle.warm_history.specs.Histories.{entries_of}
use Rattle.warm_history.proofs.maps.MergeIterLemmas.{bucket_from_start}
use Rattle.warm_history.proofs.history.History.bucket.Goals as goal

pub returns : goal.returns
returns c = c.later.ensures ∙ bucket_from_start c.args.bucket (entries_of c.args.self.now)

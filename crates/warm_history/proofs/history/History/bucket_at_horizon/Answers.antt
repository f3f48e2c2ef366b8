use Rattle.std.proofs.Common.{max, ap, subst, ◌∙◌}
use Rattle.warm_history.specs.Carried.{bucket_entries}
use Rattle.warm_history.specs.Histories.{HistoryView, IsHistory, entries_of}
use Rattle.warm_history.specs.KeptEntries.{kept_entries}
use Rattle.warm_history.proofs.RaiseLemmas.{whole_of}
use Rattle.warm_history.proofs.HorizonLemmas.{raised_bucket}
use Rattle.warm_history.proofs.history.History.bucket_at_horizon.Goals as goal

pub returns : goal.returns
returns c =
    let h = c.args.self.now in
    let here = bucket_entries c.args.bucket (entries_of h) in
    let whole = subst IsHistory c.self.view_is (whole_of c.self.inside.horizon c.self.inside.maps c.self.invariant.0 c.self.invariant.1) in
    c.new.ensures
    ∙ ap (kept_entries c.max.result) c.bucket.ensures
    ∙ ap (λ m. kept_entries m here) (c.max.ensures ∙ ap (λ (k : HistoryView). max k.horizon c.args.horizon) c.self.view_is)
    ∙ raised_bucket h c.args.horizon c.args.bucket whole

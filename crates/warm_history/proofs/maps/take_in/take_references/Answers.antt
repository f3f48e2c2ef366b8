use Rattle.std.proofs.Common.{rules, tests, List, map, ap, ◌++◌, ◌∙◌}
use Rattle.std.proofs.lemmas.Iterator.{YieldsList-from_slice, YieldsList-from_map}
use Rattle.warm_stamps.specs.declared.Reference.{Reference}
use Rattle.warm_maps.specs.declared.hist.PageHist.TheVariants.{Once}
use Rattle.warm_maps.specs.declared.hist.Entry.{Entry}
use Rattle.warm_history.specs.ReferenceSets.{references_from}
use Rattle.warm_history.specs.ListHistories.{list_references_of, list_history}
use Rattle.warm_history.specs.maps.KeptPairs.{kept}
use Rattle.warm_history.proofs.maps.RecentLemmas.{takes_yielded, references_as_entries}
use Rattle.warm_history.proofs.maps.take_in.take_references.Goals as goal

pub returns-in-Ok-clause-exact : goal.returns-in-Ok-clause-exact
returns-in-Ok-clause-exact c =
    let entry : Reference → Entry = λ r. record { page = r.page; hist = Once r.stamp } in
    let batch : List Reference = c.args.batch.now in
    takes_yielded c.args.horizon c.args.maps.now c.take_each.new.maps (map entry batch) (YieldsList-from_map _ entry (YieldsList-from_slice batch cc) c.map-entries.ensures.closure (λ x r q k. search (rules, tests))) c.in-Ok.ensures.exact
    ∙ ap (λ rs. list_history (list_references_of (kept c.args.maps.now) ++ references_from c.args.horizon rs)) (references_as_entries batch)

use Rattle.std.proofs.Common.{◌++◌, refl}
use Rattle.std.proofs.lemmas.List.{get_or_default}
use Rattle.warm_history.specs.Histories.{references_of}
use Rattle.warm_rank.specs.Relisting.{named_keys}
use Rattle.warm_rank.proofs.FallingLemmas.{named_both}
use Rattle.warm_rank.proofs.LoopPartLemmas.{part_added, parts_are_all}
use Rattle.warm_rank.proofs.warm_up.add_named.Goals as goal

pub loop-page-preserved : goal.loop-page-preserved
loop-page-preserved c =
    let S = references_of c.args.history.now in
    let pages = c.args.pages.now in
    part_added (named_keys S) (named_both S) pages c.loop-page.page-index _ c.loop-page.keys.items c.push_named.new.keys.items (c.args.keys.now.items ++ named_keys S pages)
    c.loop-page-test.true (get_or_default pages c.loop-page.page-index _ _ c.loop-page-test.true) c.in_ok-push_named.ensures c.loop-page.invariant

pub returns : goal.returns
returns c =
    let S = references_of c.args.history.now in
    let pages = c.args.pages.now in
    parts_are_all (named_keys S) refl pages c.loop-page.page-index c.loop-page.keys.items (c.args.keys.now.items ++ named_keys S pages) c.loop-page-test.false c.loop-page.invariant

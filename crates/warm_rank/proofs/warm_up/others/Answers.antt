use Rattle.std.proofs.Common.{refl}
use Rattle.warm_rank.specs.Relisting.{keys_of_others}
use Rattle.warm_rank.proofs.FallingLemmas.{others_both}
use Rattle.warm_rank.proofs.LoopPartLemmas.{part_added, parts_are_all}
use Rattle.warm_rank.proofs.warm_up.others.Goals as goal

pub loop-key-preserved : goal.loop-key-preserved
loop-key-preserved c =
    let pages = c.args.pages.now in
    let keys = c.args.keys.now in
    part_added (keys_of_others pages) (others_both pages) keys c.loop-key.key-index c.key-item.result c.loop-key.others.items c.push_other.new.others.items (keys_of_others pages keys)
    c.loop-key-test.true c.key-item.is c.in_ok-push_other.ensures c.loop-key.invariant

pub returns : goal.returns
returns c =
    let pages = c.args.pages.now in
    let keys = c.args.keys.now in
    parts_are_all (keys_of_others pages) refl keys c.loop-key.key-index c.loop-key.others.items (keys_of_others pages keys) c.loop-key-test.false c.loop-key.invariant

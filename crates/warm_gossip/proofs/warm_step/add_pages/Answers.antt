use Rattle.std.proofs.Common.{◌∙◌, ◌++◌, ◌∷◌, [], ap, map, refl}
use Rattle.std.proofs.lemmas.List.{map-append}
use Rattle.warm_rank.proofs.LoopPartLemmas.{part_added, parts_are_all}
use Rattle.warm_gossip.proofs.warm_step.add_pages.Goals as goal

pub loop-item-preserved : goal.loop-item-preserved
loop-item-preserved g c =
    let named = g.T.NamesPage.named in
    let items = c.args.items.now in
    let done = c.loop-item.changed.items in
    part_added (map named) (map-append named) items c.loop-item.item-index c.item-item.result done c.push.new.self.items (c.args.changed.now.items ++ map named items)
    c.loop-item-test.true c.item-item.is (c.in_ok-push.ensures.items ∙ ap (λ p. done ++ p ∷ []) c.named.ensures) c.loop-item.invariant

pub returns : goal.returns
returns g c =
    let named = g.T.NamesPage.named in
    let items = c.args.items.now in
    parts_are_all (map named) refl items c.loop-item.item-index c.loop-item.changed.items (c.args.changed.now.items ++ map named items) c.loop-item-test.false c.loop-item.invariant

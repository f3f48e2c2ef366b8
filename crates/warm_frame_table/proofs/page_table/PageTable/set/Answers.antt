use Rattle.std.proofs.Common.{◌≡◌, ◌<◌, length, set, subst, None, ap, sym, arith}
use Rattle.std.proofs.lemmas.List.{get_or_read}
use Rattle.warm_frame_table.specs.stored.Chains.{AreLinked, page_in}
use Rattle.warm_frame_table.specs.stored.PageTable.{one_if_held}
use Rattle.warm_frame_table.proofs.CountLemmas.{held_all, held_one, held_set}
use Rattle.warm_frame_table.proofs.page_table.PageTable.set.Goals as goal

pub held_after-self-inside-requires-clause-some : goal.held_after-self-inside-requires-clause-some
held_after-self-inside-requires-clause-some c =
    let pages = c.self.inside.pages.items in
    let there : c.args.frame < length pages = subst (λ ps. c.args.frame < length ps) (sym c.self.view_is) c.requires in
    let was : c.index.result.now ≡ page_in pages c.args.frame = get_or_read pages c.args.frame _ there c.index.ensures None in
    let one = held_one pages c.args.frame in
    let same : one_if_held c.index.result.now ≡ one_if_held (page_in pages c.args.frame) = ap one_if_held was in
    omega (arith, one, same, c.self.invariant.counted)

pub held_after-self-inside-requires-clause-few : goal.held_after-self-inside-requires-clause-few
held_after-self-inside-requires-clause-few c =
    let all = held_all c.self.inside.pages.items in
    omega (arith, all, c.self.invariant.counted, c.self.invariant.linked.few)

pub invariant_of-self : goal.invariant_of-self
invariant_of-self c =
    let new = c.move_frame.new in
    let pages = c.self.inside.pages.items in
    let there : c.args.frame < length pages = subst (λ ps. c.args.frame < length ps) (sym c.self.view_is) c.requires in
    let was : c.index.result.now ≡ page_in pages c.args.frame = get_or_read pages c.args.frame _ there c.index.ensures None in
    let same : one_if_held c.index.result.now ≡ one_if_held (page_in pages c.args.frame) = ap one_if_held was in
    let replaced = held_set pages c.args.frame c.args.page there in
    record {
      linked = subst (λ pages. AreLinked (set pages c.args.frame c.args.page) new.heads.items new.next.items) c.deref.ensures.value c.move_frame.ensures;
      counted = omega (arith, replaced, same, c.self.invariant.counted, c.held_after-self-inside.ensures);
    }

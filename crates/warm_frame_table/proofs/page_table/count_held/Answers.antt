use Rattle.std.proofs.Common.{◌≡◌, ◌+◌, length, take, ap, subst, ◌∙◌, suc, arith}
use Rattle.std.proofs.Math.Seq.{take-length}
use Rattle.warm_rank.specs.Laws.{pages_in}
use Rattle.warm_frame_table.specs.stored.Chains.{page_in}
use Rattle.warm_frame_table.specs.stored.PageTable.{one_if_held}
use Rattle.warm_frame_table.proofs.CountLemmas.{held_more, held_most, one_held_most}
use Rattle.warm_frame_table.proofs.page_table.count_held.Goals as goal

pub loop-at-preserved : goal.loop-at-preserved
loop-at-preserved c =
    let pages = c.args.pages.now in
    let so = c.loop-at.invariant in
    let is : c.one_if_held-count.result ≡ one_if_held (page_in pages c.loop-at.at) = c.one_if_held-count.ensures in
    let more = held_more c.loop-at.at pages (omega arith) in
    let one : suc c.loop-at.at ≡ c.loop-at.at + 1 = omega arith in
    subst (λ n. c.loop-at.count + c.one_if_held-count.result ≡ length (pages_in (take n pages))) one (omega (arith, so, is, more))

pub overflow_add-count : goal.overflow_add-count
overflow_add-count c =
    let pages = c.args.pages.now in
    let so = c.loop-at.invariant in
    let is : c.one_if_held-count.result ≡ one_if_held (page_in pages c.loop-at.at) = c.one_if_held-count.ensures in
    let most = held_most c.loop-at.at pages in
    let one = one_held_most (page_in pages c.loop-at.at) in
    omega (arith, so, is, most, one)

pub returns : goal.returns
returns c =
    let pages = c.args.pages.now in
    let at_end : c.loop-at.at ≡ length pages = omega arith in
    c.loop-at.invariant ∙ ap (λ n. length (pages_in (take n pages))) at_end ∙ ap (λ ps. length (pages_in ps)) (take-length pages)

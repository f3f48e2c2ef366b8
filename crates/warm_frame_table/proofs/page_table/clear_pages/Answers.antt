use Rattle.std.proofs.Common.{◌≡◌, ◌<◌, ap, sym, ◌∙◌, length, set, None, add-one, arith}
use Rattle.std.proofs.lemmas.List.{get_or_read}
use Rattle.warm_frame_table.specs.Selection.{selects}
use Rattle.warm_frame_table.specs.stored.Chains.{page_in}
use Rattle.warm_frame_table.proofs.VacateLemmas.{cleared_to, length-cleared_to, one_gone, one_stays}
use Rattle.warm_frame_table.proofs.page_table.clear_pages.Goals.{then-selects, else-selects}
use Rattle.warm_frame_table.proofs.page_table.clear_pages.Goals as goal

pub loop-frame-preserved : goal.loop-frame-preserved
loop-frame-preserved c =
    let which = c.args.which in
    let old = c.args.pages.now.items in
    let at = c.loop-frame.frame in
    let so_far : c.loop-frame.pages.items ≡ cleared_to which at old = c.loop-frame.invariant in
    let lt : at < length old = omega arith in
    let count : length c.loop-frame.pages.items ≡ length old = ap length so_far ∙ length-cleared_to which at old in
    let read : c.index.result.now ≡ page_in (cleared_to which at old) at = get_or_read c.loop-frame.pages.items at _ (omega arith) c.index.ensures None ∙ ap (λ pages. page_in pages at) so_far in
    let selected : c.selects.result ≡ selects which (page_in (cleared_to which at old) at) = c.selects.ensures ∙ ap (selects which) read in
    let next = ap (λ n. cleared_to which n old) (sym (add-one at)) in
    elim c.if-selects.branch [
      | then-selects w ↦ ap (λ v. v.items) w.pages-is ∙ ap (λ pages. set pages at None) so_far ∙ one_gone which at old lt (sym selected ∙ w.if-selects.true) ∙ next
      | else-selects w ↦ ap (λ v. v.items) w.pages-is ∙ so_far ∙ one_stays which at old lt (sym selected ∙ w.if-selects.false) ∙ next
    ]

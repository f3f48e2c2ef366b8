use Rattle.std.proofs.Common.{sym}
use Rattle.std.proofs.lemmas.List.Sorted.{searchable_from_sorted}
use Rattle.warm_stamps.specs.declared.PageId.{PageId}
use Rattle.warm_stamps.proofs.StampLemmas.{page_order}
use Rattle.warm_rank.proofs.FallingLemmas.{found_among, not_among}
use Rattle.warm_rank.proofs.warm_up.is_among.Goals as goal

pub returns-in-Ok : goal.returns-in-Ok
returns-in-Ok c = sym (found_among c.args.pages.now c.args.page _ c.in-Ok.ensures.bound c.in-Ok.ensures.ok)

pub returns-in-Err : goal.returns-in-Err
returns-in-Err c = sym (not_among c.args.pages.now c.args.page _ (c.in-Err.ensures.position (searchable_from_sorted page_order.total (λ (p : PageId). p) c.args.pages.now c.args.page c.requires)))

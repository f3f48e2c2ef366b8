use Rattle.std.proofs.Common.{List, ℕ, ◌∷◌, ◌++◌, sym, ap, ◌∙◌}
use Rattle.warm_stamps.specs.Bytes.{bytes_of_page, bytes_of_stamp}
use Rattle.warm_history.specs.PageHist.{PageHist}
use Rattle.warm_frames.specs.Entries.{hist_bytes}
use Rattle.warm_frames.proofs.writing.put_entry.Goals as goal

pub returns-in_ok-extend_from_slice-in-Twice-clause-items : goal.returns-in_ok-extend_from_slice-in-Twice-clause-items
returns-in_ok-extend_from_slice-in-Twice-clause-items c =
    let old = c.args.text.now.items in
    let page = bytes_of_page c.args.entry.now.page in
    c.in_ok-extend_from_slice-in-Twice.ensures.items ∙ ap (λ (w : List ℕ). old ++ w) c.twice_bytes.ensures
    ∙ (λ i. old ++ (page ++ 2 ∷ (bytes_of_stamp (c.last-last.ensures i) ++ bytes_of_stamp (c.prev-prev.ensures.value i))))
    ∙ ap (λ (h : PageHist). old ++ (page ++ hist_bytes h)) (sym c.in-Twice.is)

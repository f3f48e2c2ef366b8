use Rattle.std.proofs.Common.{◌≡◌, length, sym, ap, ◌∙◌, arith}
use Rattle.std.proofs.lemmas.Bool.{eqb-false}
use Rattle.warm_frames.specs.Limits.{entries_in}
use Rattle.warm_peer.specs.Chunks.{last_page}
use Rattle.warm_visits.proofs.VisitReadsSending.{last_read}
use Rattle.warm_visits.proofs.sending.last_page_of.Goals as goal

pub returns-clause-value : goal.returns-clause-value
returns-clause-value c =
    let es = c.as_slice-entries.result.now in
    let e = c.index-entries-entries.result in
    let some = eqb-false (length es) 0 (sym c.is_empty.ensures ∙ c.if-is_empty.false) in
    let same : es ≡ entries_in c.args.message.now = c.as_slice-entries.ensures.value ∙ ap entries_in (sym c.in-Entries.is) in
    last_read es e (omega (arith, some)) ∙ ap last_page same

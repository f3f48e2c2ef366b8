use Rattle.std.proofs.Common.{ℕ, ◌^◌, ◌<◌, arith, ap, subst, sym, ◌∙◌}
use Rattle.std.specs.Prelude.{bit_or}
use Rattle.warm_stamps.specs.Buckets.{page_bucket}
use Rattle.warm_maps.specs.MapKeys.{key_of_page, page_of_key}
use Rattle.warm_maps.specs.BucketMaps.{SaysNote}
use Rattle.warm_history.specs.Changes.{MarksChanged}
use Rattle.warm_history.specs.maps.KeptPairs.{kept}
use Rattle.warm_maps.specs.Undo.{note_of, noted, undone}
use Rattle.warm_history.proofs.ChangeLemmas.{marks_at}
use Rattle.warm_history.proofs.maps.KeptPairLemmas.{records_exact}
use Rattle.warm_maps.proofs.MapPairLemmas.{undone_more}
use Rattle.warm_maps.proofs.NearKeys.{page_back, page_key}
use Rattle.warm_history.proofs.maps.take_in.take.Goals as goal

pub returns-clause-undo : goal.returns-clause-undo
returns-clause-undo c =
    let old : _ = c.args.maps.now in
    let new : _ = c.record.new.self in
    let notes : _ = c.reserve.new.self.items in
    let page = c.args.page in
    let after = c.record.new.more in
    ap (λ u. undone u new) c.push_note.ensures
    ∙ undone_more notes _ (note_of page c.in-Some.change after) old new (ap (λ x. noted page x after) c.in-Some.is) c.in_ok-change.ensures.undo
    ∙ ap (λ u. undone u old) c.reserve.ensures.items

pub returns-clause-changed : goal.returns-clause-changed
returns-clause-changed c =
    let old = c.args.maps.now in
    let new = c.record.new.self in
    let page = c.args.page in
    let p = key_of_page page in
    let dev : page.dev < 65536 = omega arith in
    let fits : page.no < 18446744073709551616 = omega arith in
    let differs = subst (λ change. SaysNote (noted page change c.record.new.more) p old new) c.in-Some.is c.in_ok-change.ensures.tells in
    let set = c.with.ensures ∙ ap (λ (b : ℕ). bit_or c.new-2.result (2 ^ b)) (c.bucket_of.ensures ∙ ap page_bucket (sym (page_back page dev fits))) ∙ ap (λ (s : ℕ). bit_or s (2 ^ page_bucket (page_of_key p))) c.new-2.ensures in
    subst (MarksChanged (kept old) (kept new)) (sym set)
    (marks_at old new p c.args.more (page_key page dev fits) c.requires c.record.ensures.whole (records_exact old new page p c.args.more _ (page_key page dev fits) c.requires c.in_ok-change.ensures.records) differs)

-- nothing changed
pub returns-in_default-clause-exact : goal.returns-in_default-clause-exact
returns-in_default-clause-exact c =
    let page = c.args.page in
    records_exact c.args.maps.now c.record.new.self page (key_of_page page) c.args.more _ (page_key page (omega arith) (omega arith)) c.requires c.in_ok-change.ensures.records

pub returns-clause-exact : goal.returns-clause-exact
returns-clause-exact c =
    let page = c.args.page in
    records_exact c.args.maps.now c.record.new.self page (key_of_page page) c.args.more _ (page_key page (omega arith) (omega arith)) c.requires c.in_ok-change.ensures.records

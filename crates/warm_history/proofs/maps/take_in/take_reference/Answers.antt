use Rattle.std.proofs.Common.{◌≡◌, [], filter, ℕ, ◌^◌, ◌<◌, arith, ap, subst, sym, ◌∙◌}
use Rattle.std.specs.Prelude.{bit_or}
use Rattle.warm_stamps.specs.Buckets.{page_bucket}
use Rattle.warm_maps.specs.declared.hist.PageHist.{PageHist}
use Rattle.warm_maps.specs.declared.hist.PageHist.TheVariants.{Once}
use Rattle.warm_history.specs.ListHistories.{hist_stamps}
use Rattle.warm_history.specs.ReferenceSets.{is_kept}
use Rattle.warm_maps.specs.MapKeys.{key_of_page, page_of_key}
use Rattle.warm_maps.specs.BucketMaps.{SaysNote}
use Rattle.warm_history.specs.Changes.{MarksChanged}
use Rattle.warm_history.specs.maps.KeptPairs.{kept}
use Rattle.warm_maps.specs.Undo.{noted}
use Rattle.warm_history.proofs.ChangeLemmas.{marks_at}
use Rattle.warm_history.proofs.maps.KeptPairLemmas.{records_exact}
use Rattle.warm_maps.proofs.NearKeys.{page_back, page_key}
use Rattle.warm_history.proofs.maps.RecentLemmas.{takes_none, takes_reference, takes_some}
use Rattle.warm_history.proofs.maps.take_in.take_reference.Goals as goal

pub returns-in_default-clause-exact : goal.returns-in_default-clause-exact
returns-in_default-clause-exact c =
    let old = c.args.maps.now in
    let page = c.args.reference.page in
    let only : PageHist = Once c.args.reference.stamp in
    let none = subst (λ (h : PageHist). [] ≡ filter (is_kept c.args.horizon) (hist_stamps h)) c.once.ensures c.in_default.ensures.stamps in
    takes_reference c.args.horizon old old c.args.reference (page_back page (omega arith) (omega arith)) (takes_none c.args.horizon old (key_of_page page) only c.requires none)

-- nothing changed
pub returns-in_default-2-clause-exact : goal.returns-in_default-2-clause-exact
returns-in_default-2-clause-exact c =
    let m = c.args.horizon in
    let old = c.args.maps.now in
    let new = c.record.new.self in
    let page = c.args.reference.page in
    let p = key_of_page page in
    let dev : page.dev < 65536 = omega arith in
    let fits : page.no < 18446744073709551616 = omega arith in
    let recent = c.in-Some.recent in
    let only : PageHist = Once c.args.reference.stamp in
    let some = subst (λ (h : PageHist). hist_stamps recent ≡ filter (is_kept m) (hist_stamps h)) c.once.ensures c.in-Some.ensures.stamps in
    takes_reference m old new c.args.reference (page_back page dev fits) (takes_some m old new p only recent some
    (records_exact old new page p recent _ (page_key page dev fits) c.requires c.in_ok-_change.ensures.records))

pub returns-clause-exact : goal.returns-clause-exact
returns-clause-exact c =
    let m = c.args.horizon in
    let old = c.args.maps.now in
    let new = c.record.new.self in
    let page = c.args.reference.page in
    let p = key_of_page page in
    let dev : page.dev < 65536 = omega arith in
    let fits : page.no < 18446744073709551616 = omega arith in
    let recent = c.in-Some.recent in
    let only : PageHist = Once c.args.reference.stamp in
    let some = subst (λ (h : PageHist). hist_stamps recent ≡ filter (is_kept m) (hist_stamps h)) c.once.ensures c.in-Some.ensures.stamps in
    takes_reference m old new c.args.reference (page_back page dev fits) (takes_some m old new p only recent some
    (records_exact old new page p recent _ (page_key page dev fits) c.requires c.in_ok-_change.ensures.records))

pub returns-clause-changed : goal.returns-clause-changed
returns-clause-changed c =
    let old = c.args.maps.now in
    let new = c.record.new.self in
    let page = c.args.reference.page in
    let p = key_of_page page in
    let dev : page.dev < 65536 = omega arith in
    let fits : page.no < 18446744073709551616 = omega arith in
    let differs = subst (λ change. SaysNote (noted page change c.record.new.more) p old new) c.in-Some-2.is c.in_ok-_change.ensures.tells in
    let set = c.with.ensures ∙ ap (λ (b : ℕ). bit_or c.new-2.result (2 ^ b)) (c.bucket_of.ensures ∙ ap page_bucket (sym (page_back page dev fits))) ∙ ap (λ (s : ℕ). bit_or s (2 ^ page_bucket (page_of_key p))) c.new-2.ensures in
    subst (MarksChanged (kept old) (kept new)) (sym set)
    (marks_at old new p c.in-Some.recent (page_key page dev fits) c.requires c.record.ensures.whole (records_exact old new page p c.in-Some.recent _ (page_key page dev fits) c.requires c.in_ok-_change.ensures.records) differs)

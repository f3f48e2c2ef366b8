use Rattle.std.proofs.Common.{refl, sym, ◌∙◌}
use Rattle.std.proofs.lemmas.Result.{err_from_is_err_and}
use Rattle.warm_frame_table.specs.Frames.{nth_frame}
use Rattle.warm_pool.proofs.FlushLemmas.{on_err}
use Rattle.warm_pool.proofs.WriteBackLemmas.{already_clean, wrote_back, write_failed, failed_pool, cleaned_to, wrote_frame, no_page, no_write}
use Rattle.warm_pool.proofs.OtherDeviceLemmas.{wrote_on}
use Rattle.warm_pool.proofs.CallLemmas.{write_none, write_unread}
use Rattle.warm_pool.proofs.write_back.write_back.Goals as goal

pub returns-in_err-write_page-clause-others : goal.returns-in_err-write_page-clause-others
returns-in_err-write_page-clause-others g c =
    wrote_on _ _ _ _ _ _ (sym c.page.ensures ∙ c.in-Some.is) c.in_err-write_page.ensures

pub returns-clause-others : goal.returns-clause-others
returns-clause-others g c =
    wrote_on _ _ _ _ _ _ (sym c.page.ensures ∙ c.in-Some.is) c.in_ok-write_page.ensures

pub returns-in_err-write_page-clause-fit : goal.returns-in_err-write_page-clause-fit
returns-in_err-write_page-clause-fit g c =
    failed_pool _ _ _ _ _ _ (wrote_back c.requires.fit c.requires.there (sym c.page.ensures ∙ c.in-Some.is) (sym c.is_dirty.ensures ∙ c.if-not-is_dirty.false) c.bytes.ensures c.in_err-write_page.ensures)

pub returns-in_err-write_page-clause-failed : goal.returns-in_err-write_page-clause-failed
returns-in_err-write_page-clause-failed g c =
    on_err _ _ (write_failed _ _ _ _ _ _ (wrote_back c.requires.fit c.requires.there (sym c.page.ensures ∙ c.in-Some.is) (sym c.is_dirty.ensures ∙ c.if-not-is_dirty.false) c.bytes.ensures c.in_err-write_page.ensures) (record { fault = _; is = refl }))

pub returns-clause-fit : goal.returns-clause-fit
returns-clause-fit g c =
    (cleaned_to c.args.frames.now c.clean.new.self (wrote_back c.requires.fit c.requires.there (sym c.page.ensures ∙ c.in-Some.is) (sym c.is_dirty.ensures ∙ c.if-not-is_dirty.false) c.bytes.ensures c.in_ok-write_page.ensures) refl c.clean.ensures).0

pub returns-clause-done : goal.returns-clause-done
returns-clause-done g c =
    (cleaned_to c.args.frames.now c.clean.new.self (wrote_back c.requires.fit c.requires.there (sym c.page.ensures ∙ c.in-Some.is) (sym c.is_dirty.ensures ∙ c.if-not-is_dirty.false) c.bytes.ensures c.in_ok-write_page.ensures) refl c.clean.ensures).1

pub returns-in_default-clause-done : goal.returns-in_default-clause-done
returns-in_default-clause-done g c = already_clean _ c.args.at (c.requires.fit.bare c.args.at (sym c.page.ensures ∙ c.in_default.is)).2

pub returns-then-not-is_dirty-clause-done : goal.returns-then-not-is_dirty-clause-done
returns-then-not-is_dirty-clause-done g c = already_clean _ c.args.at (sym c.is_dirty.ensures ∙ c.if-not-is_dirty.true)

pub returns-in_err-write_page-clause-unflushed : goal.returns-in_err-write_page-clause-unflushed
returns-in_err-write_page-clause-unflushed g c =
    write_none _ _ _ _ _ _ (c.requires.fit.has_device c.args.at _ (sym c.page.ensures ∙ c.in-Some.is)) c.in_err-write_page.ensures

pub returns-clause-unflushed : goal.returns-clause-unflushed
returns-clause-unflushed g c =
    write_none _ _ _ _ _ _ (c.requires.fit.has_device c.args.at _ (sym c.page.ensures ∙ c.in-Some.is)) c.in_ok-write_page.ensures

pub returns-in_err-write_page-clause-unread : goal.returns-in_err-write_page-clause-unread
returns-in_err-write_page-clause-unread g c =
    write_unread _ _ _ _ _ _ (c.requires.fit.has_device c.args.at _ (sym c.page.ensures ∙ c.in-Some.is)) c.in_err-write_page.ensures

pub returns-clause-unread : goal.returns-clause-unread
returns-clause-unread g c =
    write_unread _ _ _ _ _ _ (c.requires.fit.has_device c.args.at _ (sym c.page.ensures ∙ c.in-Some.is)) c.in_ok-write_page.ensures

pub returns-in_default-clause-wrote : goal.returns-in_default-clause-wrote
returns-in_default-clause-wrote g c = no_page (nth_frame c.args.frames.now.frames c.args.at) _ _ _ (sym c.page.ensures ∙ c.in_default.is)

pub returns-then-not-is_dirty-clause-wrote : goal.returns-then-not-is_dirty-clause-wrote
returns-then-not-is_dirty-clause-wrote g c = no_write (nth_frame c.args.frames.now.frames c.args.at) _ _ _ (sym c.is_dirty.ensures ∙ c.if-not-is_dirty.true)

pub returns-in_err-write_page-clause-wrote : goal.returns-in_err-write_page-clause-wrote
returns-in_err-write_page-clause-wrote g c =
    let given = err_from_is_err_and c.from_residual.result c.from_residual.ensures.1 in
    rw (given.1, given.2) (wrote_frame (nth_frame c.args.frames.now.frames c.args.at) _ _ _ _ _ (sym c.page.ensures ∙ c.in-Some.is) c.bytes.ensures c.in_err-write_page.ensures)

pub returns-clause-wrote : goal.returns-clause-wrote
returns-clause-wrote g c =
    wrote_frame (nth_frame c.args.frames.now.frames c.args.at) _ _ _ _ _ (sym c.page.ensures ∙ c.in-Some.is) c.bytes.ensures c.in_ok-write_page.ensures

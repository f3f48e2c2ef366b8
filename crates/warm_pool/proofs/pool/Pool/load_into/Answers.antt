use Rattle.std.proofs.Common.{◌<◌, ◌∙◌, ap, refl, length, sym, subst}
use Rattle.warm_frame_table.specs.Frames.{nth_frame}
use Rattle.warm_pool.proofs.LoadLemmas.{ok_if_no_err, err_if, on_ok, on_err}
use Rattle.warm_pool.proofs.FetchedPageLemmas.{fetched_in, fetched_pool, fetched_none, fetch_failed, leave_failed, still_there, still_below, still_size, arrived_pool, loads_into}
use Rattle.warm_pool.proofs.pool.Pool.load_into.Goals as goal

pub page-requires : goal.page-requires
page-requires g c =
    still_there (fetched_in c.args.at c.self.view_is c.self.invariant c.requires.there c.read_page.ensures.len c.requires.device c.requires.known c.requires.absent c.read_page.ensures.call) (ok_if_no_err _ c.if-is_err.ensures.value) c.write_back.new.frames c.write_back.ensures.fit (on_ok _ (ok_if_no_err _ c.if-is_err-2.ensures.value) c.write_back.ensures.done)

pub install-requires-clause-there : goal.install-requires-clause-there
install-requires-clause-there g c =
    still_there (fetched_in c.args.at c.self.view_is c.self.invariant c.requires.there c.read_page.ensures.len c.requires.device c.requires.known c.requires.absent c.read_page.ensures.call) (ok_if_no_err _ c.if-is_err.ensures.value) c.write_back.new.frames c.write_back.ensures.fit (on_ok _ (ok_if_no_err _ c.if-is_err-2.ensures.value) c.write_back.ensures.done)

pub install-requires-clause-below : goal.install-requires-clause-below
install-requires-clause-below g c =
    still_below (fetched_in c.args.at c.self.view_is c.self.invariant c.requires.there c.read_page.ensures.len c.requires.device c.requires.known c.requires.absent c.read_page.ensures.call) (ok_if_no_err _ c.if-is_err.ensures.value) c.write_back.new.frames c.write_back.ensures.fit (on_ok _ (ok_if_no_err _ c.if-is_err-2.ensures.value) c.write_back.ensures.done) _ (subst (λ s. (nth_frame s.frames c.args.at).generation < 18446744073709551615) (sym c.self.view_is) c.requires.below)

pub returns-then-is_err-clause-refused : goal.returns-then-is_err-clause-refused
returns-then-is_err-clause-refused g c = rw (← c.self.view_is) (
    let x = fetch_failed (fetched_in c.args.at c.self.view_is c.self.invariant c.requires.there c.read_page.ensures.len c.requires.device c.requires.known c.requires.absent c.read_page.ensures.call) (err_if _ c.if-is_err.ensures.value) in record { frames = x.frames; devices = x.devices; fails = x.fails })

pub invariant_of-self : goal.invariant_of-self
invariant_of-self g c =
    fetched_pool (fetched_in c.args.at c.self.view_is c.self.invariant c.requires.there c.read_page.ensures.len c.requires.device c.requires.known c.requires.absent c.read_page.ensures.call) _ c.read_page.ensures.len

pub write_back-requires-clause-fit : goal.write_back-requires-clause-fit
write_back-requires-clause-fit g c =
    fetched_pool (fetched_in c.args.at c.self.view_is c.self.invariant c.requires.there c.read_page.ensures.len c.requires.device c.requires.known c.requires.absent c.read_page.ensures.call) _ (sym c.self.invariant.spare_size)

pub returns-then-is_err-2-clause-refused : goal.returns-then-is_err-2-clause-refused
returns-then-is_err-2-clause-refused g c = rw (← c.self.view_is) (
    let x = leave_failed (fetched_in c.args.at c.self.view_is c.self.invariant c.requires.there c.read_page.ensures.len c.requires.device c.requires.known c.requires.absent c.read_page.ensures.call) (ok_if_no_err _ c.if-is_err.ensures.value) _ (on_err _ (err_if _ c.if-is_err-2.ensures.value) c.write_back.ensures.failed) in record { page = x.page; holds = x.holds; dirty = x.dirty; frames = x.frames; waits = x.waits; others = x.others; fails = x.fails })

pub invariant_of-self-2 : goal.invariant_of-self-2
invariant_of-self-2 g c =
    arrived_pool (fetched_in c.args.at c.self.view_is c.self.invariant c.requires.there c.read_page.ensures.len c.requires.device c.requires.known c.requires.absent c.read_page.ensures.call) (ok_if_no_err _ c.if-is_err.ensures.value) c.write_back.new.frames c.write_back.ensures.fit (on_ok _ (ok_if_no_err _ c.if-is_err-2.ensures.value) c.write_back.ensures.done) c.args.key c.args.fixes c.read_page.new.into.items refl c.install.new.self _ c.install.ensures.frames (ap length c.install.ensures.given ∙ still_size (fetched_in c.args.at c.self.view_is c.self.invariant c.requires.there c.read_page.ensures.len c.requires.device c.requires.known c.requires.absent c.read_page.ensures.call) (ok_if_no_err _ c.if-is_err.ensures.value) c.write_back.new.frames c.write_back.ensures.fit (on_ok _ (ok_if_no_err _ c.if-is_err-2.ensures.value) c.write_back.ensures.done))

pub returns-clause-put : goal.returns-clause-put
returns-clause-put g c = rw (← c.self.view_is) (
    loads_into (fetched_in c.args.at c.self.view_is c.self.invariant c.requires.there c.read_page.ensures.len c.requires.device c.requires.known c.requires.absent c.read_page.ensures.call) (ok_if_no_err _ c.if-is_err.ensures.value) c.write_back.new.frames c.write_back.ensures.fit (on_ok _ (ok_if_no_err _ c.if-is_err-2.ensures.value) c.write_back.ensures.done) c.args.key c.args.fixes c.read_page.new.into.items refl c.install.new.self _ c.install.ensures.frames)

pub returns-then-is_err-clause-unflushed : goal.returns-then-is_err-clause-unflushed
returns-then-is_err-clause-unflushed g c = rw (← c.self.view_is) (fetched_none (fetched_in c.args.at c.self.view_is c.self.invariant c.requires.there c.read_page.ensures.len c.requires.device c.requires.known c.requires.absent c.read_page.ensures.call))

pub returns-then-is_err-2-clause-unflushed : goal.returns-then-is_err-2-clause-unflushed
returns-then-is_err-2-clause-unflushed g c = rw (← c.self.view_is) (λ k. c.write_back.ensures.unflushed k ∙ fetched_none (fetched_in c.args.at c.self.view_is c.self.invariant c.requires.there c.read_page.ensures.len c.requires.device c.requires.known c.requires.absent c.read_page.ensures.call) k)

pub returns-clause-unflushed : goal.returns-clause-unflushed
returns-clause-unflushed g c = rw (← c.self.view_is) (λ k. c.write_back.ensures.unflushed k ∙ fetched_none (fetched_in c.args.at c.self.view_is c.self.invariant c.requires.there c.read_page.ensures.len c.requires.device c.requires.known c.requires.absent c.read_page.ensures.call) k)

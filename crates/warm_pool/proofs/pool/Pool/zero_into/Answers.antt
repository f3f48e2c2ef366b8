use Rattle.std.proofs.Common.{◌<◌, ◌≤◌, ◌∙◌, ap, refl, length, sym, subst}
use Rattle.warm_devices.specs.declared.TheConstants.{MAX_PAGE_SIZE}
use Rattle.warm_frame_table.specs.Frames.{nth_frame}
use Rattle.warm_pool.specs.State.{PoolState, IsNowhere, nth_device}
use Rattle.warm_pool.proofs.LoadLemmas.{ok_if_no_err, err_if, on_ok, on_err}
use Rattle.warm_pool.proofs.FetchedPageLemmas.{spare_keeps}
use Rattle.warm_pool.proofs.ZeroingLemmas.{zero_there, zero_below, zero_size, zeroed_pool, zeroes_into}
use Rattle.warm_pool.proofs.pool.Pool.zero_into.Goals as goal

pub write_back-requires-clause-fit : goal.write_back-requires-clause-fit
write_back-requires-clause-fit g c = spare_keeps _ _ refl c.self.invariant

pub returns-then-is_err-clause-refused : goal.returns-then-is_err-clause-refused
returns-then-is_err-clause-refused g c = rw (← c.self.view_is) (
    let x = on_err _ (err_if _ c.if-is_err.ensures.value) c.write_back.ensures.failed in
    (refl, record { page = x.page; holds = x.holds; dirty = x.dirty; frames = x.frames; waits = x.waits; others = x.others; fails = x.fails }))

pub page-requires : goal.page-requires
page-requires g c =
    zero_there (spare_keeps _ _ refl c.self.invariant) c.args.at (subst (λ (s : PoolState). c.args.at < length s.frames) (sym c.self.view_is) c.requires.there) c.args.page
    (subst (λ (s : PoolState). c.args.page.dev < length s.devices) (sym c.self.view_is) c.requires.device)
    (subst (λ (s : PoolState). c.args.page.no < (nth_device s.devices c.args.page.dev).pages) (sym c.self.view_is) c.requires.known)
    (subst (λ (s : PoolState). IsNowhere s.frames c.args.page) (sym c.self.view_is) c.requires.absent) c.args.key
    c.write_back.new.frames c.write_back.ensures.fit (on_ok _ (ok_if_no_err _ c.if-is_err.ensures.value) c.write_back.ensures.done)

pub install_zeros-requires-clause-there : goal.install_zeros-requires-clause-there
install_zeros-requires-clause-there g c =
    zero_there (spare_keeps _ _ refl c.self.invariant) c.args.at (subst (λ (s : PoolState). c.args.at < length s.frames) (sym c.self.view_is) c.requires.there) c.args.page
    (subst (λ (s : PoolState). c.args.page.dev < length s.devices) (sym c.self.view_is) c.requires.device)
    (subst (λ (s : PoolState). c.args.page.no < (nth_device s.devices c.args.page.dev).pages) (sym c.self.view_is) c.requires.known)
    (subst (λ (s : PoolState). IsNowhere s.frames c.args.page) (sym c.self.view_is) c.requires.absent) c.args.key
    c.write_back.new.frames c.write_back.ensures.fit (on_ok _ (ok_if_no_err _ c.if-is_err.ensures.value) c.write_back.ensures.done)

pub install_zeros-requires-clause-below : goal.install_zeros-requires-clause-below
install_zeros-requires-clause-below g c =
    zero_below (spare_keeps _ _ refl c.self.invariant) c.args.at (subst (λ (s : PoolState). c.args.at < length s.frames) (sym c.self.view_is) c.requires.there) c.args.page
    (subst (λ (s : PoolState). c.args.page.dev < length s.devices) (sym c.self.view_is) c.requires.device)
    (subst (λ (s : PoolState). c.args.page.no < (nth_device s.devices c.args.page.dev).pages) (sym c.self.view_is) c.requires.known)
    (subst (λ (s : PoolState). IsNowhere s.frames c.args.page) (sym c.self.view_is) c.requires.absent) c.args.key
    c.write_back.new.frames c.write_back.ensures.fit (on_ok _ (ok_if_no_err _ c.if-is_err.ensures.value) c.write_back.ensures.done)
    _ (subst (λ (s : PoolState). (nth_frame s.frames c.args.at).generation < 18446744073709551615) (sym c.self.view_is) c.requires.below)

pub install_zeros-requires-clause-sized : goal.install_zeros-requires-clause-sized
install_zeros-requires-clause-sized g c = subst (λ n. n ≤ MAX_PAGE_SIZE) (sym c.self.invariant.spare_size) c.self.invariant.few_bytes

pub invariant_of-self-2 : goal.invariant_of-self-2
invariant_of-self-2 g c =
    let there = subst (λ (s : PoolState). c.args.at < length s.frames) (sym c.self.view_is) c.requires.there in
    let device = subst (λ (s : PoolState). c.args.page.dev < length s.devices) (sym c.self.view_is) c.requires.device in
    let known = subst (λ (s : PoolState). c.args.page.no < (nth_device s.devices c.args.page.dev).pages) (sym c.self.view_is) c.requires.known in
    let absent = subst (λ (s : PoolState). IsNowhere s.frames c.args.page) (sym c.self.view_is) c.requires.absent in
    let cleans = on_ok _ (ok_if_no_err _ c.if-is_err.ensures.value) c.write_back.ensures.done in
    zeroed_pool (spare_keeps _ _ refl c.self.invariant) c.args.at there c.args.page device known absent c.args.key
    c.write_back.new.frames c.write_back.ensures.fit cleans _ c.self.invariant.spare_size c.install_zeros.new.frames _ c.install_zeros.ensures.frames
    (ap length c.install_zeros.ensures.given ∙ zero_size (spare_keeps _ _ refl c.self.invariant) c.args.at there c.args.page device known absent c.args.key
    c.write_back.new.frames c.write_back.ensures.fit cleans)

pub returns-clause-put : goal.returns-clause-put
returns-clause-put g c = rw (← c.self.view_is) (
    let there = subst (λ (s : PoolState). c.args.at < length s.frames) (sym c.self.view_is) c.requires.there in
    let device = subst (λ (s : PoolState). c.args.page.dev < length s.devices) (sym c.self.view_is) c.requires.device in
    let known = subst (λ (s : PoolState). c.args.page.no < (nth_device s.devices c.args.page.dev).pages) (sym c.self.view_is) c.requires.known in
    let absent = subst (λ (s : PoolState). IsNowhere s.frames c.args.page) (sym c.self.view_is) c.requires.absent in
    let x = zeroes_into (spare_keeps _ _ refl c.self.invariant) c.args.at there c.args.page device known absent c.args.key
    c.write_back.new.frames c.write_back.ensures.fit (on_ok _ (ok_if_no_err _ c.if-is_err.ensures.value) c.write_back.ensures.done)
    _ c.self.invariant.spare_size c.install_zeros.new.frames (length c.install_zeros.new.bytes.items) c.install_zeros.ensures.frames in
    record { frames = x.frames; devices = x.devices; waits = x.waits; rest = x.rest; zeros = x.zeros; others = x.others })

pub returns-then-is_err-clause-unflushed : goal.returns-then-is_err-clause-unflushed
returns-then-is_err-clause-unflushed g c = rw (← c.self.view_is) c.write_back.ensures.unflushed

pub returns-clause-unflushed : goal.returns-clause-unflushed
returns-clause-unflushed g c = rw (← c.self.view_is) c.write_back.ensures.unflushed

pub returns-then-is_err-clause-unread : goal.returns-then-is_err-clause-unread
returns-then-is_err-clause-unread g c = rw (← c.self.view_is) c.write_back.ensures.unread

pub returns-clause-unread : goal.returns-clause-unread
returns-clause-unread g c = rw (← c.self.view_is) c.write_back.ensures.unread

use Rattle.std.proofs.Common.{length, ap, arith}
use Rattle.warm_pool.proofs.DirtyPageLemmas.{none_yet, none_more, none_left}
use Rattle.warm_pool.proofs.pool.Pool.next_dirty.Goals as goal

pub loop-at-init : goal.loop-at-init
loop-at-init g c = (omega arith, none_yet c.args.self.now.frames c.args.from)

pub loop-at-preserved : goal.loop-at-preserved
loop-at-preserved g c =
    let so = c.loop-at.invariant.0 in
    (omega (arith, so), none_more c.args.self.now.frames c.args.from c.loop-at.at c.loop-at.invariant.1 c.in_default.ensures)

pub returns-in-Some : goal.returns-in-Some
returns-in-Some g c = (c.loop-at.invariant.0, c.loop-at.invariant.1, c.in-Some.ensures)

pub returns : goal.returns
returns g c =
    let seen = ap (λ s. length s.frames) c.self.view_is in
    none_left c.args.self.now.frames c.args.from c.loop-at.at (omega (arith, seen)) c.loop-at.invariant.1

use Rattle.std.proofs.Common.{Some, None}
use Rattle.warm_pool.proofs.FrameChoiceLemmas.{pool_seen, place_seen, found_there, found_holds, found_nowhere}
use Rattle.warm_pool.proofs.FlushLemmas.{handed_on}
use Rattle.warm_pool.proofs.FillingLemmas.{given_stored}
use Rattle.warm_pool.proofs.PinOutcomeLemmas.{fixed_filled}
use Rattle.warm_pool.proofs.OutcomeLemmas.{full_unread_fails, unknown_unread_fails}
use Rattle.warm_pool.proofs.pool.Pool.pin_filled.Goals as goal

pub add_fix-requires-clause-there : goal.add_fix-requires-clause-there
add_fix-requires-clause-there g c = found_there (pool_seen c.self.view_is c.self.invariant) _ _ (place_seen c.self.view_is c.args.page (Some c.in-Some.at) c.in-Some.ensures)

pub add_fix-requires-clause-held : goal.add_fix-requires-clause-held
add_fix-requires-clause-held g c none = let holds = found_holds (pool_seen c.self.view_is c.self.invariant) c.args.page _ (place_seen c.self.view_is c.args.page (Some c.in-Some.at) c.in-Some.ensures) in absurd (cc)

pub fill_absent-requires-clause-absent : goal.fill_absent-requires-clause-absent
fill_absent-requires-clause-absent g c = found_nowhere (pool_seen c.self.view_is c.self.invariant) _ (place_seen c.self.view_is c.args.page None c.in-None.ensures)

pub fill_absent-requires-clause-given : goal.fill_absent-requires-clause-given
fill_absent-requires-clause-given g c =
    given_stored (pool_seen c.self.view_is c.self.invariant) c.args.page _ c.in_ok-check.ensures.known
    (found_nowhere (pool_seen c.self.view_is c.self.invariant) _ (place_seen c.self.view_is c.args.page None c.in-None.ensures)) c.requires.given

pub returns-in-None-clause-done : goal.returns-in-None-clause-done
returns-in-None-clause-done g c = c.fill_absent.ensures.done

pub returns-in_err-check-clause-refused : goal.returns-in_err-check-clause-refused
returns-in_err-check-clause-refused g c =
    handed_on c.from_residual.result c.in_err-check.field-0.0 _ c.from_residual.ensures.1 (
    unknown_unread_fails c.args.history.now c.args.self.now c.args.page c.in_err-check.ensures.unknown _
    (c.in_err-check.ensures.load c.args.history.now) (c.in_err-check.ensures.pin c.args.history.now))

pub returns-in-Some-clause-done : goal.returns-in-Some-clause-done
returns-in-Some-clause-done g c =
    fixed_filled c.args.history.now c.args.self.now c.add_fix.new.self c.in-Some.at c.args.page c.in_ok-check.ensures.known
    (found_holds (pool_seen c.self.view_is c.self.invariant) _ _ (place_seen c.self.view_is c.args.page (Some c.in-Some.at) c.in-Some.ensures)) _
    c.add_fix.ensures.kept _ (c.add_fix.ensures.fixed c.args.page (found_holds (pool_seen c.self.view_is c.self.invariant) _ _ (place_seen c.self.view_is c.args.page (Some c.in-Some.at) c.in-Some.ensures))) c.add_fix.ensures.evicted c.add_fix.ensures.holds c.add_fix.ensures.others

pub returns-in-Some-clause-refused : goal.returns-in-Some-clause-refused
returns-in-Some-clause-refused g c =
    full_unread_fails c.args.history.now c.args.self.now c.add_fix.new.self c.args.page c.in-Some.at c.in_ok-check.ensures.known
    (found_there (pool_seen c.self.view_is c.self.invariant) _ _ (place_seen c.self.view_is c.args.page (Some c.in-Some.at) c.in-Some.ensures)) (found_holds (pool_seen c.self.view_is c.self.invariant) _ _ (place_seen c.self.view_is c.args.page (Some c.in-Some.at) c.in-Some.ensures)) _ c.add_fix.ensures.refused

use Rattle.std.proofs.Common.{Some, None}
use Rattle.warm_pool.proofs.FrameChoiceLemmas.{pool_seen, place_seen, found_there, found_holds, found_nowhere}
use Rattle.warm_pool.proofs.FlushLemmas.{handed_on}
use Rattle.warm_pool.proofs.PinOutcomeLemmas.{fixed_zeroed}
use Rattle.warm_pool.proofs.OutcomeLemmas.{full_unread_fails, unknown_unread_fails}
use Rattle.warm_pool.proofs.pool.Pool.pin_zeroed.Goals as goal

pub fix_zeroed-requires-clause-there : goal.fix_zeroed-requires-clause-there
fix_zeroed-requires-clause-there g c = found_there (pool_seen c.self.view_is c.self.invariant) _ _ (place_seen c.self.view_is c.args.page (Some c.in-Some.at) c.in-Some.ensures)

pub fix_zeroed-requires-clause-held : goal.fix_zeroed-requires-clause-held
fix_zeroed-requires-clause-held g c none = let holds = found_holds (pool_seen c.self.view_is c.self.invariant) c.args.page _ (place_seen c.self.view_is c.args.page (Some c.in-Some.at) c.in-Some.ensures) in absurd (cc)

pub zero_absent-requires-clause-absent : goal.zero_absent-requires-clause-absent
zero_absent-requires-clause-absent g c = found_nowhere (pool_seen c.self.view_is c.self.invariant) _ (place_seen c.self.view_is c.args.page None c.in-None.ensures)

pub returns-in_err-check-clause-refused : goal.returns-in_err-check-clause-refused
returns-in_err-check-clause-refused g c =
    handed_on c.from_residual.result c.in_err-check.field-0.0 _ c.from_residual.ensures.1 (
    unknown_unread_fails c.args.history.now c.args.self.now c.args.page c.in_err-check.ensures.unknown _
    (c.in_err-check.ensures.load c.args.history.now) (c.in_err-check.ensures.pin c.args.history.now))

pub returns-in-Some-clause-done : goal.returns-in-Some-clause-done
returns-in-Some-clause-done g c =
    fixed_zeroed c.args.history.now c.args.self.now c.fix_zeroed.new.self c.in-Some.at c.args.page c.in_ok-check.ensures.known
    (found_holds (pool_seen c.self.view_is c.self.invariant) _ _ (place_seen c.self.view_is c.args.page (Some c.in-Some.at) c.in-Some.ensures)) _ c.fix_zeroed.ensures.fixed c.fix_zeroed.ensures.holds

pub returns-in-Some-clause-refused : goal.returns-in-Some-clause-refused
returns-in-Some-clause-refused g c =
    full_unread_fails c.args.history.now c.args.self.now c.fix_zeroed.new.self c.args.page c.in-Some.at c.in_ok-check.ensures.known
    (found_there (pool_seen c.self.view_is c.self.invariant) _ _ (place_seen c.self.view_is c.args.page (Some c.in-Some.at) c.in-Some.ensures)) (found_holds (pool_seen c.self.view_is c.self.invariant) _ _ (place_seen c.self.view_is c.args.page (Some c.in-Some.at) c.in-Some.ensures)) _ c.fix_zeroed.ensures.refused

pub returns-in-None-clause-done : goal.returns-in-None-clause-done
returns-in-None-clause-done g c = c.zero_absent.ensures.done

pub returns-in-None-clause-refused : goal.returns-in-None-clause-refused
returns-in-None-clause-refused g c = c.zero_absent.ensures.refused

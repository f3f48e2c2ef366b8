use Rattle.std.proofs.Common.{Some, None}
use Rattle.warm_pool.proofs.FrameChoiceLemmas.{pool_seen, place_seen, found_there, found_holds, found_nowhere}
use Rattle.warm_pool.proofs.FlushLemmas.{handed_on, if_ok, if_err}
use Rattle.warm_pool.specs.Outcomes.{PinsPlaced}
use Rattle.warm_pool.proofs.PinOutcomeLemmas.{fixed_pinned, puts_pinned}
use Rattle.warm_pool.proofs.OutcomeLemmas.{full_pin_fails, load_pin_fails, unknown_pin_fails}
use Rattle.warm_pool.proofs.pool.Pool.pin_placed.Goals as goal

pub add_fix-requires-clause-there : goal.add_fix-requires-clause-there
add_fix-requires-clause-there g c = found_there (pool_seen c.self.view_is c.self.invariant) _ _ (place_seen c.self.view_is c.args.page (Some c.in-Some.at) c.in-Some.ensures)

pub add_fix-requires-clause-held : goal.add_fix-requires-clause-held
add_fix-requires-clause-held g c none = let holds = found_holds (pool_seen c.self.view_is c.self.invariant) c.args.page _ (place_seen c.self.view_is c.args.page (Some c.in-Some.at) c.in-Some.ensures) in absurd (cc)

pub load_absent-requires-clause-absent : goal.load_absent-requires-clause-absent
load_absent-requires-clause-absent g c = found_nowhere (pool_seen c.self.view_is c.self.invariant) _ (place_seen c.self.view_is c.args.page None c.in-None.ensures)

pub returns-in_err-check-clause-refused : goal.returns-in_err-check-clause-refused
returns-in_err-check-clause-refused g c =
    handed_on c.from_residual.result c.in_err-check.field-0.0 _ c.from_residual.ensures.1 (
    unknown_pin_fails c.args.history.now c.args.self.now c.args.page c.in_err-check.ensures.unknown _
    (c.in_err-check.ensures.load c.args.history.now) (c.in_err-check.ensures.pin c.args.history.now))

pub returns-in-Some-clause-done : goal.returns-in-Some-clause-done
returns-in-Some-clause-done g c =
    fixed_pinned c.args.history.now c.args.self.now c.add_fix.new.self c.in-Some.at c.args.page c.in_ok-check.ensures.known
    (found_holds (pool_seen c.self.view_is c.self.invariant) _ _ (place_seen c.self.view_is c.args.page (Some c.in-Some.at) c.in-Some.ensures))
    c.add_fix.ensures.kept _ (c.add_fix.ensures.fixed c.args.page (found_holds (pool_seen c.self.view_is c.self.invariant) _ _ (place_seen c.self.view_is c.args.page (Some c.in-Some.at) c.in-Some.ensures))) c.add_fix.ensures.evicted c.add_fix.ensures.holds c.add_fix.ensures.others

pub returns-in-Some-clause-refused : goal.returns-in-Some-clause-refused
returns-in-Some-clause-refused g c =
    full_pin_fails c.args.history.now c.args.self.now c.add_fix.new.self c.args.page c.in-Some.at c.in_ok-check.ensures.known
    (found_there (pool_seen c.self.view_is c.self.invariant) _ _ (place_seen c.self.view_is c.args.page (Some c.in-Some.at) c.in-Some.ensures)) (found_holds (pool_seen c.self.view_is c.self.invariant) _ _ (place_seen c.self.view_is c.args.page (Some c.in-Some.at) c.in-Some.ensures)) _ c.add_fix.ensures.refused

pub returns-in-None-clause-done : goal.returns-in-None-clause-done
returns-in-None-clause-done g c =
    if_ok _ (λ placed. PinsPlaced c.args.history.now c.args.page c.args.self.now placed c.load_absent.new.self) _ c.load_absent.ensures.done
    (λ placed puts. puts_pinned (pool_seen c.self.view_is c.self.invariant) c.args.history.now _ c.args.page placed c.in_ok-check.ensures.known puts)

pub returns-in-None-clause-refused : goal.returns-in-None-clause-refused
returns-in-None-clause-refused g c =
    if_err _ _ _ c.load_absent.ensures.refused (λ why fails. load_pin_fails c.args.history.now c.args.self.now _ c.args.page why fails)

use Rattle.std.proofs.Common.{refl, inl, sym, subst, map, Some, None}
use Rattle.warm_frame_table.specs.Places.{IsPlaceOf}
use Rattle.warm_pool.specs.View.{view_of}
use Rattle.warm_pool.specs.State.{IsPool}
use Rattle.warm_pool.specs.Pinning.{StaysIn}
use Rattle.warm_pool.proofs.FrameChoiceLemmas.{pool_seen, place_seen, found_there, found_holds, found_nowhere, seen_there, seen_page, seen_generation, seen_resident}
use Rattle.warm_pool.proofs.UnchangedLemmas.{same_bytes, stays_in_frame}
use Rattle.warm_pool.proofs.FlushLemmas.{handed_on, if_ok}
use Rattle.warm_pool.proofs.PlacedLemmas.{placed_resident}
use Rattle.warm_pool.specs.Outcomes.{LoadsPlaced}
use Rattle.warm_pool.proofs.PinOutcomeLemmas.{puts_loaded}
use Rattle.warm_pool.proofs.OutcomeLemmas.{unknown_load_fails}
use Rattle.warm_pool.proofs.pool.Pool.load_placed.Goals as goal

pub slot_at-slot-requires : goal.slot_at-slot-requires
slot_at-slot-requires g c = found_there (pool_seen c.self.view_is c.self.invariant) c.args.page _ (place_seen c.self.view_is c.args.page (Some c.in-Some.at) c.in-Some.ensures)

pub load_absent-requires-clause-absent : goal.load_absent-requires-clause-absent
load_absent-requires-clause-absent g c = found_nowhere (pool_seen c.self.view_is c.self.invariant) _ (place_seen c.self.view_is c.args.page None c.in-None.ensures)

pub returns-in_err-check-clause-refused : goal.returns-in_err-check-clause-refused
returns-in_err-check-clause-refused g c =
    handed_on c.from_residual.result c.in_err-check.field-0.0 _ c.from_residual.ensures.1 (
    unknown_load_fails c.args.history.now c.args.self.now c.args.page c.in_err-check.ensures.unknown _
    (c.in_err-check.ensures.load c.args.history.now) (c.in_err-check.ensures.pin c.args.history.now))

pub returns-in-Some-clause-done : goal.returns-in-Some-clause-done
returns-in-Some-clause-done g c =
    let pool : IsPool c.args.self.now = pool_seen c.self.view_is c.self.invariant in
    let place : IsPlaceOf (map (λ f. f.page) c.args.self.now.frames) c.args.page (Some c.in-Some.at) = place_seen c.self.view_is c.args.page (Some c.in-Some.at) c.in-Some.ensures in
    record {
      load = record {
        loaded = (
          c.in_ok-check.ensures.known,
          inl (subst (λ slot. StaysIn (view_of c.args.self.now) c.args.page slot (view_of c.args.self.now)) (sym c.slot_at-slot.ensures) (record {
            there = seen_there pool c.in-Some.at (found_there pool _ _ place);
            resident = seen_page pool c.in-Some.at c.args.page (found_holds pool _ _ place);
            current = seen_generation pool c.in-Some.at refl;
            same = refl;
          })),
        );
        frame = stays_in_frame _ _ c.in-Some.at c.args.page _ (found_holds pool _ _ place) (λ j ne. refl) (same_bytes _);
      };
      evicted = placed_resident _ _ _ _ refl (seen_resident pool c.args.page _ place) (λ q is away. away is.frame is.holds);
    }

pub returns-in-None-clause-done : goal.returns-in-None-clause-done
returns-in-None-clause-done g c =
    if_ok _ (λ placed. LoadsPlaced c.args.history.now c.args.page c.args.self.now placed c.load_absent.new.self) _ c.load_absent.ensures.done
    (λ placed puts. puts_loaded (pool_seen c.self.view_is c.self.invariant) c.args.history.now _ c.args.page placed c.in_ok-check.ensures.known puts)

pub returns-in-None-clause-refused : goal.returns-in-None-clause-refused
returns-in-None-clause-refused g c = c.load_absent.ensures.refused

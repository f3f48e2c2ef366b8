use Rattle.std.proofs.Common.{length, ap, sym, ◌∙◌, arith}
use Rattle.warm_frame_table.specs.declared.selection.Devices.TheVariants.{All}
use Rattle.warm_pool.specs.WritingSome.{room_after}
use Rattle.warm_pool.proofs.FlushLemmas.{on_err}
use Rattle.warm_pool.proofs.ClosingLemmas.{down_more}
use Rattle.warm_pool.proofs.SettleLemmas.{down_view}
use Rattle.warm_pool.proofs.PartialWriteBackLemmas.{none_so_far, spent_more, full_first, all_first, some_fails, first_ranked, failed_ranked}
use Rattle.warm_pool.proofs.pool.Pool.clean_first.Goals as goal

pub loop-at-init : goal.loop-at-init
loop-at-init g c = none_so_far c.args.limit c.args.self.now

pub loop-at-preserved : goal.loop-at-preserved
loop-at-preserved g c =
    let seen = ap (λ s. length s.frames) c.self.view_is in
    let is = sym (ap (λ d. room_after d c.loop-at.room) c.is_dirty.ensures) ∙ sym c.room_after.ensures ∙ c.in-Some.is in
    record {
      spent = spent_more c.args.limit c.loop-at.at c.loop-at.room _ _ _ (omega (arith, seen)) c.loop-at.invariant is;
      down = down_more All c.loop-at.at _ _ _ (omega (arith, seen)) c.loop-at.invariant.down c.in_ok-clean_if.ensures.down;
      unflushed = λ k. c.in_ok-clean_if.ensures.unflushed k ∙ c.loop-at.invariant.unflushed k;
    }

pub returns-in_default-clause-down : goal.returns-in_default-clause-down
returns-in_default-clause-down g c =
    let seen = ap (λ s. length s.frames) c.self.view_is in
    let is = sym (ap (λ d. room_after d c.loop-at.room) c.is_dirty.ensures) ∙ sym c.room_after.ensures ∙ c.in_default.is in
    full_first c.args.limit c.loop-at.at c.loop-at.room _ _ (omega (arith, seen)) c.loop-at.invariant is

pub returns-in_default-clause-ranked : goal.returns-in_default-clause-ranked
returns-in_default-clause-ranked g c =
    let seen = ap (λ s. length s.frames) c.self.view_is in
    let is = sym (ap (λ d. room_after d c.loop-at.room) c.is_dirty.ensures) ∙ sym c.room_after.ensures ∙ c.in_default.is in
    first_ranked c.args.limit _ _ (full_first c.args.limit c.loop-at.at c.loop-at.room _ _ (omega (arith, seen)) c.loop-at.invariant is)

pub returns-in_err-clean_if-clause-stopped : goal.returns-in_err-clean_if-clause-stopped
returns-in_err-clean_if-clause-stopped g c =
    let seen = ap (λ s. length s.frames) c.self.view_is in
    let is = sym (ap (λ d. room_after d c.loop-at.room) c.is_dirty.ensures) ∙ sym c.room_after.ensures ∙ c.in-Some.is in
    let so = c.loop-at.invariant in
    on_err _ _ (some_fails c.args.limit c.loop-at.at c.loop-at.room _ _ _ _ (omega (arith, seen)) so is (down_view All c.loop-at.at _ _ so.down) c.in_err-clean_if.ensures.unflushed c.in_err-clean_if.ensures.failed.1)

pub returns-in_err-clean_if-clause-ranked : goal.returns-in_err-clean_if-clause-ranked
returns-in_err-clean_if-clause-ranked g c =
    let seen = ap (λ s. length s.frames) c.self.view_is in
    let is = sym (ap (λ d. room_after d c.loop-at.room) c.is_dirty.ensures) ∙ sym c.room_after.ensures ∙ c.in-Some.is in
    let so = c.loop-at.invariant in
    failed_ranked c.args.limit _ _ (some_fails c.args.limit c.loop-at.at c.loop-at.room _ _ _ _ (omega (arith, seen)) so is (down_view All c.loop-at.at _ _ so.down) c.in_err-clean_if.ensures.unflushed c.in_err-clean_if.ensures.failed.1)

pub returns-clause-down : goal.returns-clause-down
returns-clause-down g c =
    let seen = ap (λ s. length s.frames) c.self.view_is in
    all_first c.args.limit c.loop-at.at c.loop-at.room _ _ (omega (arith, seen)) (omega (arith, seen)) c.loop-at.invariant

pub returns-clause-ranked : goal.returns-clause-ranked
returns-clause-ranked g c =
    let seen = ap (λ s. length s.frames) c.self.view_is in
    first_ranked c.args.limit _ _ (all_first c.args.limit c.loop-at.at c.loop-at.room _ _ (omega (arith, seen)) (omega (arith, seen)) c.loop-at.invariant)

pub returns-in_err-clean_if-clause-unflushed : goal.returns-in_err-clean_if-clause-unflushed
returns-in_err-clean_if-clause-unflushed g c = λ k. c.in_err-clean_if.ensures.unflushed k ∙ c.loop-at.invariant.unflushed k

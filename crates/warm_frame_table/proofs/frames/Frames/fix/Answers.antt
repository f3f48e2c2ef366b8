use Rattle.std.proofs.Common.{◌≡◌, ap, refl, arith}
use Rattle.warm_frame_table.specs.Frames.{nth_frame}
use Rattle.warm_frame_table.specs.FrameSteps.{fixed}
use Rattle.warm_frame_table.specs.stored.Statuses.{status_at}
use Rattle.warm_frame_table.proofs.LagLemmas.{not_updated, lags_fixed}
use Rattle.warm_frame_table.proofs.StoredLemmas.{has_page, has_status, lags_at, seen, page_stays, body_stays, stay_tied, becomes}
use Rattle.warm_frame_table.proofs.frames.Frames.fix.Goals as goal

pub fix-requires-clause-there : goal.fix-requires-clause-there
fix-requires-clause-there c = has_status c.self.invariant c.self.view_is c.args.at c.requires.there refl

pub fix-requires-clause-below : goal.fix-requires-clause-below
fix-requires-clause-below c =
    let fixes : (status_at c.self.inside.statuses c.args.at).fixes ≡ (nth_frame c.args.self.now.frames c.args.at).fixes = ap (λ f. f.fixes) (seen c.self.invariant c.self.view_is c.args.at c.requires.there) in
    omega (arith, fixes, c.requires.below)

pub invariant_of-self : goal.invariant_of-self
invariant_of-self c =
    let there = has_page c.self.invariant c.self.view_is c.args.at c.requires.there in
    stay_tied c.self.invariant (record { pages = page_stays _ c.args.at; statuses = c.fix.ensures; bodies = body_stays _ c.args.at }) there
    (not_updated _ c.args.at _ (lags_fixed _ _ _ (lags_at c.self.invariant c.args.at there) (omega arith) refl))

pub returns : goal.returns
returns c =
    becomes c.self.invariant c.self.view_is c.args.at c.requires.there (record { pages = page_stays _ c.args.at; statuses = c.fix.ensures; bodies = body_stays _ c.args.at })
    fixed refl

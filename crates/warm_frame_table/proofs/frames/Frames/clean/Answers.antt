use Rattle.std.proofs.Common.{refl}
use Rattle.warm_frame_table.specs.FrameSteps.{cleaned}
use Rattle.warm_frame_table.proofs.LagLemmas.{not_updated, lags_kept}
use Rattle.warm_frame_table.proofs.StoredLemmas.{has_page, has_status, page_stays, body_stays, lags_at, stay_tied, becomes}
use Rattle.warm_frame_table.proofs.frames.Frames.clean.Goals as goal

pub mark-requires : goal.mark-requires
mark-requires c = has_status c.self.invariant c.self.view_is c.args.at c.requires.there refl

pub invariant_of-self : goal.invariant_of-self
invariant_of-self c =
    let there = has_page c.self.invariant c.self.view_is c.args.at c.requires.there in
    stay_tied c.self.invariant (record { pages = page_stays _ c.args.at; statuses = c.mark.ensures; bodies = body_stays _ c.args.at }) there
    (not_updated _ c.args.at _ (lags_kept _ _ _ (lags_at c.self.invariant c.args.at there) refl refl))

pub returns : goal.returns
returns c =
    becomes c.self.invariant c.self.view_is c.args.at c.requires.there (record { pages = page_stays _ c.args.at; statuses = c.mark.ensures; bodies = body_stays _ c.args.at })
    cleaned refl

use Rattle.std.proofs.Common.{ap, refl, ◌∙◌}
use Rattle.warm_frame_table.specs.Lending.{relent}
use Rattle.warm_frame_table.proofs.LagLemmas.{not_updated, lags_kept}
use Rattle.warm_frame_table.proofs.StoredLemmas.{has_page, has_status, has_body, seen, page_stays, lags_at, stay_tied, becomes}
use Rattle.warm_frame_table.proofs.frames.Frames.bytes_mut.Goals as goal

pub mark-requires : goal.mark-requires
mark-requires c = has_status c.self.invariant c.self.view_is c.args.at c.requires.there refl

pub bytes_mut_of-requires : goal.bytes_mut_of-requires
bytes_mut_of-requires c = has_body c.self.invariant c.self.view_is c.args.at c.requires.there c.self.inside.frames.ok.0

pub invariant_of-self-lent : goal.invariant_of-self-lent
invariant_of-self-lent c = λ w.
    let there = has_page c.self.invariant c.self.view_is c.args.at c.requires.there in
    stay_tied c.self.invariant (record { pages = page_stays _ c.args.at; statuses = c.mark.ensures; bodies = refl }) there
    (not_updated _ c.args.at _ (lags_kept _ _ _ (lags_at c.self.invariant c.args.at there) refl refl))

pub returns : goal.returns
returns c = (
  (refl, λ w. becomes c.self.invariant c.self.view_is c.args.at c.requires.there (record { pages = page_stays _ c.args.at; statuses = c.mark.ensures; bodies = refl }) (relent w) refl),
  record { writes_back = tt; bytes = c.bytes_mut_of.ensures.bytes ∙ ap (λ f. f.bytes) (seen c.self.invariant c.self.view_is c.args.at c.requires.there) },
)

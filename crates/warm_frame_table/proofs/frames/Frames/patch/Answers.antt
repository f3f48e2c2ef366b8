use Rattle.std.proofs.Common.{◌+◌, ◌≤◌, length, None, true, ap, sym, subst, refl, ◌∙◌, get_or}
use Rattle.warm_frame_table.specs.FrameSteps.{written, patched}
use Rattle.warm_frame_table.specs.stored.Parts.{frame_of, rank_in, unused_status}
use Rattle.warm_frame_table.proofs.LagLemmas.{not_updated, lags_kept}
use Rattle.warm_frame_table.proofs.StoredLemmas.{has_page, has_status, has_body, body_is, seen, page_stays, lags_at, stay_tied, becomes}
use Rattle.warm_frame_table.proofs.frames.Frames.patch.Goals as goal

pub index_mut-requires : goal.index_mut-requires
index_mut-requires c = has_body c.self.invariant c.self.view_is c.args.at c.requires.there c.self.inside.frames.ok.0

pub overwrite-requires : goal.overwrite-requires
overwrite-requires c =
    let is = body_is c.self.invariant c.self.view_is c.args.at c.requires.there _ c.index_mut.result.now refl c.index_mut.ensures.value in
    let bytes = ap (λ b. b.bytes) is ∙ ap (λ f. f.bytes) (seen c.self.invariant c.self.view_is c.args.at c.requires.there) in
    subst (λ bs. c.args.from + length c.args.bytes.now ≤ length bs) (sym bytes) c.requires.within

pub mark-requires : goal.mark-requires
mark-requires c = has_status c.self.invariant c.self.view_is c.args.at c.requires.there refl

pub invariant_of-self : goal.invariant_of-self
invariant_of-self c =
    let page = get_or c.self.inside.page_table c.args.at None in
    let body_now = body_is c.self.invariant c.self.view_is c.args.at c.requires.there _ c.index_mut.result.now refl c.index_mut.ensures.value in
    let there = has_page c.self.invariant c.self.view_is c.args.at c.requires.there in
    stay_tied c.self.invariant (record { pages = page_stays _ c.args.at; statuses = c.mark.ensures; bodies = refl }) there
    (not_updated _ c.args.at _ (lags_kept _ _ _ (lags_at c.self.invariant c.args.at there) refl
    (ap (λ b. rank_in page b.key) c.overwrite.ensures ∙ ap (λ b. rank_in page b.key) body_now)))

pub returns : goal.returns
returns c =
    let page = get_or c.self.inside.page_table c.args.at None in
    let status = get_or c.self.inside.statuses c.args.at unused_status in
    let body_now = body_is c.self.invariant c.self.view_is c.args.at c.requires.there _ c.index_mut.result.now refl c.index_mut.ensures.value in
    becomes c.self.invariant c.self.view_is c.args.at c.requires.there (record { pages = page_stays _ c.args.at; statuses = c.mark.ensures; bodies = refl })
    (written c.args.from c.args.bytes.now)
    (ap (frame_of page (record status { dirty = true })) c.overwrite.ensures
    ∙ ap (λ b. frame_of page (record status { dirty = true }) (record b { bytes = patched b.bytes c.args.from c.args.bytes.now })) body_now)

use Rattle.std.proofs.Common.{◌≢◌, None, Some, [], ap, sym, subst, refl, ◌∙◌, get_or}
use Rattle.warm_frame_table.specs.FrameSteps.{ranked}
use Rattle.warm_frame_table.specs.stored.Parts.{frame_of, fresh_body, unused_status}
use Rattle.warm_frame_table.proofs.LagLemmas.{IsUpdated, updated_lower}
use Rattle.warm_frame_table.proofs.StoredLemmas.{has_page, has_slot, has_body, body_is, rank_of_page, seen, page_stays, status_stays, stay_tied, becomes}
use Rattle.warm_frame_table.proofs.frames.Frames.rank.Goals as goal

pub index_mut-frame-requires : goal.index_mut-frame-requires
index_mut-frame-requires c = has_body c.self.invariant c.self.view_is c.args.at c.requires.there c.self.inside.frames.ok.0

pub lower-requires : goal.lower-requires
lower-requires c = has_slot c.self.invariant c.args.at (has_page c.self.invariant c.self.view_is c.args.at c.requires.there)

pub invariant_of-self : goal.invariant_of-self
invariant_of-self c =
    let there = has_page c.self.invariant c.self.view_is c.args.at c.requires.there in
    let page = get_or c.self.inside.page_table c.args.at None in
    let some : page ≢ None = λ none. c.requires.held (ap (λ f. f.page) (sym (seen c.self.invariant c.self.view_is c.args.at c.requires.there)) ∙ none) in
    stay_tied c.self.invariant (record { pages = page_stays _ c.args.at; statuses = status_stays _ c.args.at; bodies = refl }) there
    (subst (IsUpdated c.self.inside.contest c.args.at _) (sym c.lower.ensures)
    (updated_lower c.self.inside.contest c.args.at _ (Some c.args.key) (has_slot c.self.invariant c.args.at there) (rank_of_page page (Some c.args.key) some)))

pub returns : goal.returns
returns c =
    let page = get_or c.self.inside.page_table c.args.at None in
    let status = get_or c.self.inside.statuses c.args.at unused_status in
    let body = get_or c.self.inside.frames.items c.args.at (fresh_body []) in
    let is = body_is c.self.invariant c.self.view_is c.args.at c.requires.there _ c.index_mut-frame.result.now c.frame.view_is c.index_mut-frame.ensures.value in
    let some : page ≢ None = λ none. c.requires.held (ap (λ f. f.page) (sym (seen c.self.invariant c.self.view_is c.args.at c.requires.there)) ∙ none) in
    becomes c.self.invariant c.self.view_is c.args.at c.requires.there (record { pages = page_stays _ c.args.at; statuses = status_stays _ c.args.at; bodies = refl })
    (ranked c.args.key)
    (ap (λ b. frame_of page status (record b { key = Some c.args.key })) is
    ∙ ap (λ k. record (frame_of page status body) { key = k }) (rank_of_page page (Some c.args.key) some))

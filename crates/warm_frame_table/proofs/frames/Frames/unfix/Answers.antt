use Rattle.std.proofs.Common.{◌≡◌, ◌≢◌, ◌<◌, None, [], ap, sym, subst, refl, ◌∙◌, get_or, arith}
use Rattle.warm_frame_table.specs.Frames.{nth_frame}
use Rattle.warm_frame_table.specs.FrameSteps.{unfixed}
use Rattle.warm_frame_table.specs.stored.Parts.{fresh_body}
use Rattle.warm_frame_table.specs.stored.Statuses.{status_at}
use Rattle.warm_frame_table.proofs.LagLemmas.{IsUpdated, not_updated, updated, lags_fixed, lags_set}
use Rattle.warm_frame_table.proofs.StoredLemmas.{has_page, has_slot, has_status, has_body, body_is, rank_of_page, seen, page_stays, body_stays, lags_at, stay_tied, becomes}
use Rattle.warm_frame_table.proofs.frames.Frames.unfix.Goals as goal

pub unfix-left-requires-clause-there : goal.unfix-left-requires-clause-there
unfix-left-requires-clause-there c = has_status c.self.invariant c.self.view_is c.args.at c.requires.there refl

pub unfix-left-requires-clause-fixed : goal.unfix-left-requires-clause-fixed
unfix-left-requires-clause-fixed c =
    let fixes : (status_at c.self.inside.statuses c.args.at).fixes ≡ (nth_frame c.args.self.now.frames c.args.at).fixes = ap (λ f. f.fixes) (seen c.self.invariant c.self.view_is c.args.at c.requires.there) in
    omega (arith, fixes, c.requires.fixed)

pub is_set-requires : goal.is_set-requires
is_set-requires c = has_slot c.self.invariant c.args.at (has_page c.self.invariant c.self.view_is c.args.at c.requires.there)

pub index-requires : goal.index-requires
index-requires c = has_body c.self.invariant c.self.view_is c.args.at c.requires.there c.self.inside.frames.ok.0

pub set-requires : goal.set-requires
set-requires c = has_slot c.self.invariant c.args.at (has_page c.self.invariant c.self.view_is c.args.at c.requires.there)

-- a page that is still pinned
pub invariant_of-self : goal.invariant_of-self
invariant_of-self c =
    let there = has_page c.self.invariant c.self.view_is c.args.at c.requires.there in
    stay_tied c.self.invariant (record { pages = page_stays _ c.args.at; statuses = c.unfix-left.ensures.status; bodies = body_stays _ c.args.at }) there
    (not_updated _ c.args.at _ (lags_fixed _ _ _ (lags_at c.self.invariant c.args.at there) (subst (λ n. 0 < n) c.unfix-left.ensures.left c.if-left-gt0.true) refl))

pub returns-then-left-gt0 : goal.returns-then-left-gt0
returns-then-left-gt0 c =
    becomes c.self.invariant c.self.view_is c.args.at c.requires.there (record { pages = page_stays _ c.args.at; statuses = c.unfix-left.ensures.status; bodies = body_stays _ c.args.at })
    unfixed refl

-- a slot that has a key
pub invariant_of-self-then-is_set : goal.invariant_of-self-then-is_set
invariant_of-self-then-is_set c =
    let there = has_page c.self.invariant c.self.view_is c.args.at c.requires.there in
    stay_tied c.self.invariant (record { pages = page_stays _ c.args.at; statuses = c.unfix-left.ensures.status; bodies = body_stays _ c.args.at }) there
    (not_updated _ c.args.at _ (lags_set _ _ _ (lags_at c.self.invariant c.args.at there) (sym c.is_set.ensures ∙ c.if-is_set.true) refl))

pub returns-then-is_set : goal.returns-then-is_set
returns-then-is_set c =
    becomes c.self.invariant c.self.view_is c.args.at c.requires.there (record { pages = page_stays _ c.args.at; statuses = c.unfix-left.ensures.status; bodies = body_stays _ c.args.at })
    unfixed refl

-- the contest is given the rank
pub invariant_of-self-2 : goal.invariant_of-self-2
invariant_of-self-2 c =
    let there = has_page c.self.invariant c.self.view_is c.args.at c.requires.there in
    let page = get_or c.self.inside.page_table c.args.at None in
    let body = get_or c.self.inside.frames.items c.args.at (fresh_body []) in
    let is = body_is c.self.invariant c.self.view_is c.args.at c.requires.there _ c.index.result.now refl c.index.ensures in
    let some : page ≢ None = λ none. c.requires.held (ap (λ f. f.page) (sym (seen c.self.invariant c.self.view_is c.args.at c.requires.there)) ∙ none) in
    stay_tied c.self.invariant (record { pages = page_stays _ c.args.at; statuses = c.unfix-left.ensures.status; bodies = body_stays _ c.args.at }) there
    (subst (IsUpdated c.self.inside.contest c.args.at _) (sym c.set.ensures)
    (updated c.self.inside.contest c.args.at _ _ (has_slot c.self.invariant c.args.at there) (rank_of_page page body.key some ∙ sym (ap (λ b. b.key) is) ∙ sym (ap (λ b. b.key) c.behind-self.view_is))))

pub returns : goal.returns
returns c =
    becomes c.self.invariant c.self.view_is c.args.at c.requires.there (record { pages = page_stays _ c.args.at; statuses = c.unfix-left.ensures.status; bodies = body_stays _ c.args.at })
    unfixed refl

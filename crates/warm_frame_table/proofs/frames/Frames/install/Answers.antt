use Rattle.std.proofs.Common.{Some, false, ap, sym, subst, refl, ◌∙◌, arith}
use Rattle.warm_frame_table.specs.FrameSteps.{loaded_frame}
use Rattle.warm_frame_table.specs.stored.Parts.{frame_of, filled_body}
use Rattle.warm_frame_table.proofs.LagLemmas.{IsUpdated, updated}
use Rattle.warm_frame_table.proofs.StoredLemmas.{has_page, has_slot, has_status, has_body, body_is, seen, stay_tied, becomes}
use Rattle.warm_frame_table.proofs.frames.Frames.install.Goals as goal

pub index_mut-frame-requires : goal.index_mut-frame-requires
index_mut-frame-requires c = has_body c.self.invariant c.self.view_is c.args.at c.requires.there c.self.inside.frames.ok.0

pub fill-requires : goal.fill-requires
fill-requires c =
    let is = body_is c.self.invariant c.self.view_is c.args.at c.requires.there _ c.index_mut-frame.result.now refl c.index_mut-frame.ensures.value in
    let generation = ap (λ b. b.generation) is ∙ ap (λ f. f.generation) (seen c.self.invariant c.self.view_is c.args.at c.requires.there) in
    omega (arith, generation, c.requires.below)

pub put-requires : goal.put-requires
put-requires c = has_status c.self.invariant c.self.view_is c.args.at c.requires.there refl

pub set-requires : goal.set-requires
set-requires c = has_page c.self.invariant c.self.view_is c.args.at c.requires.there

pub set-requires-2 : goal.set-requires-2
set-requires-2 c = has_slot c.self.invariant c.args.at (has_page c.self.invariant c.self.view_is c.args.at c.requires.there)

pub invariant_of-self : goal.invariant_of-self
invariant_of-self c =
    let there = has_page c.self.invariant c.self.view_is c.args.at c.requires.there in
    stay_tied c.self.invariant (record { pages = c.set.ensures; statuses = c.put.ensures; bodies = refl }) there
    (subst (IsUpdated c.self.inside.contest c.args.at _) (sym c.set-2.ensures)
    (updated c.self.inside.contest c.args.at _ _ (has_slot c.self.invariant c.args.at there) (sym (ap (λ b. b.key) c.frame.view_is))))

pub returns-clause-frames : goal.returns-clause-frames
returns-clause-frames c =
    let is = body_is c.self.invariant c.self.view_is c.args.at c.requires.there _ c.index_mut-frame.result.now refl c.index_mut-frame.ensures.value in
    becomes c.self.invariant c.self.view_is c.args.at c.requires.there (record { pages = c.set.ensures; statuses = c.put.ensures; bodies = refl })
    (loaded_frame c.args.page c.args.key c.args.fixes c.args.bytes.now.items)
    (ap (frame_of (Some c.args.page) (record { fixes = c.args.fixes; dirty = false }))
    (c.fill.ensures.frame ∙ ap (filled_body c.args.key c.args.bytes.now.items) is))

pub returns-clause-given : goal.returns-clause-given
returns-clause-given c =
    let is = body_is c.self.invariant c.self.view_is c.args.at c.requires.there _ c.index_mut-frame.result.now refl c.index_mut-frame.ensures.value in
    c.fill.ensures.given ∙ ap (λ b. b.bytes) is ∙ ap (λ f. f.bytes) (seen c.self.invariant c.self.view_is c.args.at c.requires.there)

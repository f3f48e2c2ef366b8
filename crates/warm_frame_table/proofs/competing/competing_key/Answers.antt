use Rattle.std.proofs.Common.{◌≢◌, None, [], sym, ap, ◌∙◌, get_or}
use Rattle.std.proofs.lemmas.List.{get_or_read}
use Rattle.std.proofs.Math.ListN.{get_or-map as mapped}
use Rattle.warm_rank.proofs.VacantLemmas.{none_there, some_there}
use Rattle.warm_frame_table.specs.Frames.{fresh_frame, key_unless_fixed, eviction_key}
use Rattle.warm_frame_table.specs.stored.Parts.{frames_of, frame_of, fresh_body, unused_status}
use Rattle.warm_frame_table.proofs.LagLemmas.{bare_key}
use Rattle.warm_frame_table.proofs.StoredLemmas.{nth_within, rank_of_page}
use Rattle.warm_frame_table.proofs.competing.competing_key.Goals as goal

pub returns-then-is_none : goal.returns-then-is_none
returns-then-is_none c =
    let frames = frames_of c.args.pages.now c.args.statuses.now c.args.frames.now in
    let status = get_or c.args.statuses.now c.args.at unused_status in
    let body = get_or c.args.frames.now c.args.at (fresh_body []) in
    sym (mapped eviction_key frames c.args.at (fresh_frame []) ∙ ap eviction_key (nth_within _ _ _ c.args.at c.requires.seen)
    ∙ ap (λ p. eviction_key (frame_of p status body)) (none_there _ c.if-is_none.ensures) ∙ bare_key status.fixes None)

pub returns : goal.returns
returns c =
    let frames = frames_of c.args.pages.now c.args.statuses.now c.args.frames.now in
    let page = get_or c.args.pages.now c.args.at None in
    let status = get_or c.args.statuses.now c.args.at unused_status in
    let body = get_or c.args.frames.now c.args.at (fresh_body []) in
    let is = get_or_read c.args.frames.now c.args.at c.index-frames-at.result c.requires.frame c.index-frames-at.is (fresh_body []) in
    let some : page ≢ None = some_there page c.if-is_none.ensures in
    c.leaving.ensures ∙ ap (λ b. key_unless_fixed status.fixes b.key) is ∙ ap (key_unless_fixed status.fixes) (sym (rank_of_page page body.key some))
    ∙ sym (mapped eviction_key frames c.args.at (fresh_frame []) ∙ ap eviction_key (nth_within _ _ _ c.args.at c.requires.seen))

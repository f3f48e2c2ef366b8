-- The dirty statuses are counted.
use Rattle.std.proofs.Common.{◌≡◌, ℕ, zero, suc, ◌+◌, ◌<◌, ◌≤◌, List, [], ◌∷◌, length, set, replicate, Option, refl, ap, ◌∙◌, arith}
use Rattle.warm_stamps.specs.declared.PageId.{PageId}
use Rattle.warm_rank.specs.declared.RankKey.{RankKey}
use Rattle.warm_frame_table.specs.declared.frame.Status.{Status}
use Rattle.warm_frame_table.specs.Frames.{FramesState, dirty_count, one_if}
use Rattle.warm_frame_table.specs.stored.Parts.{FrameBody, frames_of, unused_status}
use Rattle.warm_frame_table.specs.stored.Tied.{AreTied}
use Rattle.warm_frame_table.specs.stored.Statuses.{dirty_statuses, status_at}
use Rattle.warm_frame_table.proofs.StoredLemmas.{kept}
use Rattle.warm_frame_table.proofs.CountLemmas.{one_most}

pub dirty_all : (statuses : List Status) → dirty_statuses statuses ≤ length statuses
dirty_all [] = omega arith
dirty_all (s ∷ statuses) = let rest = dirty_all statuses in let one = one_most s.dirty in omega (arith, rest, one)

pub dirty_one : (statuses : List Status) (at : ℕ) → one_if (status_at statuses at).dirty ≤ dirty_statuses statuses
dirty_one [] at = omega arith
dirty_one (s ∷ statuses) zero = omega arith
dirty_one (s ∷ statuses) (suc at) = let rest = dirty_one statuses at in omega (arith, rest)

-- one status is replaced
pub dirty_set : (statuses : List Status) (at : ℕ) (status : Status) → at < length statuses
    → dirty_statuses (set statuses at status) + one_if (status_at statuses at).dirty
    ≡ dirty_statuses statuses + one_if status.dirty
dirty_set [] at status lt = absurd (omega arith)
dirty_set (s ∷ statuses) zero status lt = omega arith
dirty_set (s ∷ statuses) (suc at) status lt = let rest = dirty_set statuses at status (omega arith) in omega (arith, rest)

-- by one that is as dirty
pub dirty_same : (statuses : List Status) (at : ℕ) (status : Status) → at < length statuses
    → status.dirty ≡ (status_at statuses at).dirty
    → dirty_statuses statuses ≡ dirty_statuses (set statuses at status)
dirty_same statuses at status lt same =
    let replaced = dirty_set statuses at status lt in
    let one : one_if status.dirty ≡ one_if (status_at statuses at).dirty = ap one_if same in
    omega (arith, replaced, one)

pub none_dirty : (n : ℕ) → dirty_statuses (replicate n unused_status) ≡ 0
none_dirty zero = refl
none_dirty (suc n) = let rest = none_dirty n in omega (arith, rest)

-- the dirty frames are those of these statuses
frames_dirty : (ps : List (Option PageId)) (ss : List Status) (bs : List FrameBody)
    → length ss ≡ length ps → length bs ≡ length ps
    → dirty_statuses ss ≡ dirty_count (frames_of ps ss bs)
frames_dirty [] [] bs h k = refl
frames_dirty [] (s ∷ ss) bs h k = absurd (omega arith)
frames_dirty (p ∷ ps) [] bs h k = absurd (omega arith)
frames_dirty (p ∷ ps) (s ∷ ss) [] h k = absurd (omega arith)
frames_dirty (p ∷ ps) (s ∷ ss) (b ∷ bs) h k = ap (λ n. one_if s.dirty + n) (frames_dirty ps ss bs (omega arith) (omega arith))

pub seen_dirty : {ps : List (Option PageId)} {ss : List Status} {bs : List FrameBody}
    {contest : List (Option RankKey)} {size : ℕ} {v : FramesState}
    → AreTied ps ss bs contest → kept size ps ss bs ≡ v → dirty_statuses ss ≡ dirty_count v.frames
seen_dirty {ps} {ss} {bs} tied seen =
    frames_dirty ps ss bs tied.status_each tied.body_each ∙ ap (λ (w : FramesState). dirty_count w.frames) seen

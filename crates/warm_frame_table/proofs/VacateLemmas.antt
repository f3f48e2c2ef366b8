-- Pages that leave their frames, from the first frame on.
use Rattle.std.proofs.Common.{◌≡◌, ℕ, zero, suc, ◌<◌, cond, true, false, IsTrue, List, [], ◌∷◌, ◌++◌, map, take, drop, length, replicate, set, Option, None, refl, sym, ap, ◌∙◌, subst, arith}
use Rattle.std.proofs.Math.Path.{ap₂}
use Rattle.std.proofs.lemmas.List.{length-map}
use Rattle.warm_stamps.specs.declared.PageId.{PageId}
use Rattle.warm_rank.specs.declared.RankKey.{RankKey}
use Rattle.warm_rank.specs.Slots.{key_at, keys_while}
use Rattle.warm_rank.proofs.VacantLemmas.{length-keys_while}
use Rattle.warm_frame_table.specs.declared.frame.Status.{Status}
use Rattle.warm_frame_table.specs.declared.selection.Devices.{Devices}
use Rattle.warm_frame_table.specs.declared.selection.Devices.TheVariants.{All}
use Rattle.warm_frame_table.specs.Frames.{FrameState, FramesState, nth_frame}
use Rattle.warm_frame_table.specs.FrameSteps.{vacated}
use Rattle.warm_frame_table.specs.Selection.{selects, vacate_if, vacated_selected, AreClean}
use Rattle.warm_frame_table.specs.stored.Parts.{FrameBody, frame_of, frames_of}
use Rattle.warm_frame_table.specs.stored.Tied.{AreTied, LagsBehind}
use Rattle.warm_frame_table.specs.stored.Chains.{page_in}
use Rattle.warm_frame_table.specs.stored.PageTable.{clear_if}
use Rattle.warm_frame_table.proofs.LagLemmas.{all_cleared as all_lag}
use Rattle.warm_frame_table.proofs.StoredLemmas.{kept}

-- All frames at once

pub none_left : (pages : List (Option PageId))
    → map (clear_if All) pages ≡ replicate (length pages) None
none_left [] = refl
none_left (page ∷ pages) = ap (λ (rest : List (Option PageId)). None ∷ rest) (none_left pages)

-- One frame more

-- the pages of the frames after the selected ones of the first n were cleared
abbrev pub cleared_to : Devices → ℕ → List (Option PageId) → List (Option PageId)
cleared_to which n pages = map (clear_if which) (take n pages) ++ drop n pages

pub length-cleared_to : (which : Devices) (n : ℕ) (pages : List (Option PageId))
    → length (cleared_to which n pages) ≡ length pages
length-cleared_to which zero pages = refl
length-cleared_to which (suc n) [] = refl
length-cleared_to which (suc n) (page ∷ pages) = ap suc (length-cleared_to which n pages)

-- the current frame, as its page is selected or not
pub one_gone : (which : Devices) (at : ℕ) (pages : List (Option PageId)) → at < length pages
    → selects which (page_in (cleared_to which at pages) at) ≡ true
    → set (cleared_to which at pages) at None ≡ cleared_to which (suc at) pages
one_gone which at [] lt is = absurd (omega arith)
one_gone which zero (page ∷ pages) lt is = ap (λ t. cond t None page ∷ pages) (sym is)
one_gone which (suc at) (page ∷ pages) lt is = ap (λ rest. clear_if which page ∷ rest) (one_gone which at pages (omega arith) is)

pub one_stays : (which : Devices) (at : ℕ) (pages : List (Option PageId)) → at < length pages
    → selects which (page_in (cleared_to which at pages) at) ≡ false
    → cleared_to which at pages ≡ cleared_to which (suc at) pages
one_stays which at [] lt isnt = absurd (omega arith)
one_stays which zero (page ∷ pages) lt isnt = ap (λ t. cond t None page ∷ pages) (sym isnt)
one_stays which (suc at) (page ∷ pages) lt isnt = ap (λ rest. clear_if which page ∷ rest) (one_stays which at pages (omega arith) isnt)

-- Frames of which pages were taken

one_cleared : (which : Devices) (page : Option PageId) (status : Status) (body : FrameBody)
    → (IsTrue (selects which page) → status.dirty ≡ false)
    → frame_of (clear_if which page) status body ≡ vacate_if which (frame_of page status body)
one_cleared which page status body = elim (selects which page) as (λ t. (IsTrue t → status.dirty ≡ false) → frame_of (cond t None page) status body ≡ cond t (vacated (frame_of page status body)) (frame_of page status body)) [
  | true ↦ λ clean. ap (λ dirty. record (frame_of None status body) { dirty = dirty }) (clean refl)
  | false ↦ λ clean. refl
]

all_cleared : (which : Devices) (ps : List (Option PageId)) (ss : List Status) (bs : List FrameBody)
    → length ss ≡ length ps → length bs ≡ length ps → AreClean which (frames_of ps ss bs)
    → frames_of (map (clear_if which) ps) ss bs ≡ vacated_selected which (frames_of ps ss bs)
all_cleared which [] ss bs h k clean = refl
all_cleared which (p ∷ ps) [] bs h k clean = absurd (omega arith)
all_cleared which (p ∷ ps) (s ∷ ss) [] h k clean = absurd (omega arith)
all_cleared which (p ∷ ps) (s ∷ ss) (b ∷ bs) h k clean =
    ap₂ (λ (f : FrameState) (rest : List FrameState). f ∷ rest) (one_cleared which p s b (clean 0)) (all_cleared which ps ss bs (omega arith) (omega arith) (λ i. clean (suc i)))

module _ {ps ps' : List (Option PageId)} {ss : List Status} {bs : List FrameBody}
    {contest : List (Option RankKey)} {size : ℕ} {v : FramesState} (which : Devices)
    (tied : AreTied ps ss bs contest) (seen : kept size ps ss bs ≡ v)
    (clear : ps' ≡ map (clear_if which) ps) where
  pub vacated_seen : AreClean which v.frames
      → kept size ps' ss bs ≡ record v { frames = vacated_selected which v.frames }
  vacated_seen clean =
      ap (λ pages. kept size pages ss bs) clear
      ∙ ap (λ frames. record { page_size = size; frames = frames }) (all_cleared which ps ss bs tied.status_each tied.body_each (subst (λ w. AreClean which w.frames) (sym seen) clean))
      ∙ ap (λ (w : FramesState). let left : FramesState = record w { frames = vacated_selected which w.frames } in left) seen

  pub vacated_tied : {contest' : List (Option RankKey)} → contest' ≡ keys_while ps' contest
      → AreTied ps' ss bs contest'
  vacated_tied {contest'} now_is =
      let count = ap length clear ∙ length-map ps (clear_if which) in
      record {
        status_each = tied.status_each ∙ sym count;
        body_each = tied.body_each ∙ sym count;
        contest_each = ap length now_is ∙ length-keys_while ps' contest ∙ tied.contest_each ∙ sym count;
        lags = subst (λ pages. (i : ℕ) → LagsBehind (key_at contest' i) (nth_frame (frames_of pages ss bs) i)) (sym clear)
            (subst (λ keys. (i : ℕ) → LagsBehind (key_at keys i) (nth_frame (frames_of (map (clear_if which) ps) ss bs) i)) (sym (now_is ∙ ap (λ pages. keys_while pages contest) clear))
            (all_lag which ps ss bs contest tied.status_each tied.body_each tied.contest_each tied.lags));
      }

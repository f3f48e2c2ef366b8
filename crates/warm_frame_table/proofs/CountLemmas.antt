-- The resident pages, and the dirty ones, are counted frame by frame.
use Rattle.std.proofs.Common.{◌≡◌, ℕ, zero, suc, ◌+◌, ◌<◌, ◌≤◌, Bool, true, false, List, [], ◌∷◌, length, set, replicate, take, Option, Some, None, refl, arith}
use Rattle.warm_stamps.specs.declared.PageId.{PageId}
use Rattle.warm_rank.specs.Laws.{pages_in}
use Rattle.warm_frame_table.specs.Frames.{FrameState, nth_frame, one_if, dirty_count}
use Rattle.warm_frame_table.specs.stored.Chains.{page_in}
use Rattle.warm_frame_table.specs.stored.PageTable.{one_if_held}

-- one frame more
pub held_more : (n : ℕ) (pages : List (Option PageId)) → n < length pages
    → length (pages_in (take (suc n) pages))
    ≡ length (pages_in (take n pages)) + one_if_held (page_in pages n)
held_more n [] lt = absurd (omega arith)
held_more zero (None ∷ pages) lt = omega arith
held_more zero (Some p ∷ pages) lt = omega arith
held_more (suc n) (None ∷ pages) lt = held_more n pages (omega arith)
held_more (suc n) (Some p ∷ pages) lt = let rest = held_more n pages (omega arith) in omega (arith, rest)

pub one_held_most : (page : Option PageId) → one_if_held page ≤ 1
one_held_most None = omega arith
one_held_most (Some p) = omega arith

pub held_most : (n : ℕ) (pages : List (Option PageId)) → length (pages_in (take n pages)) ≤ n
held_most zero pages = omega arith
held_most (suc n) [] = omega arith
held_most (suc n) (None ∷ pages) = let rest = held_most n pages in omega (arith, rest)
held_most (suc n) (Some p ∷ pages) = let rest = held_most n pages in omega (arith, rest)

pub held_all : (pages : List (Option PageId)) → length (pages_in pages) ≤ length pages
held_all [] = omega arith
held_all (None ∷ pages) = let rest = held_all pages in omega (arith, rest)
held_all (Some p ∷ pages) = let rest = held_all pages in omega (arith, rest)

pub held_one : (pages : List (Option PageId)) (at : ℕ) → one_if_held (page_in pages at) ≤ length (pages_in pages)
held_one [] at = omega arith
held_one (None ∷ pages) zero = omega arith
held_one (Some p ∷ pages) zero = omega arith
held_one (None ∷ pages) (suc at) = held_one pages at
held_one (Some p ∷ pages) (suc at) = let rest = held_one pages at in omega (arith, rest)

-- the page of one frame is replaced
pub held_set : (pages : List (Option PageId)) (at : ℕ) (page : Option PageId) → at < length pages
    → length (pages_in (set pages at page)) + one_if_held (page_in pages at)
    ≡ length (pages_in pages) + one_if_held page
held_set [] at page lt = absurd (omega arith)
held_set (None ∷ pages) zero None lt = omega arith
held_set (None ∷ pages) zero (Some q) lt = omega arith
held_set (Some p ∷ pages) zero None lt = omega arith
held_set (Some p ∷ pages) zero (Some q) lt = omega arith
held_set (None ∷ pages) (suc at) page lt = held_set pages at page (omega arith)
held_set (Some p ∷ pages) (suc at) page lt = let rest = held_set pages at page (omega arith) in omega (arith, rest)

pub none_held : (n : ℕ) → length (pages_in (replicate n None)) ≡ 0
none_held zero = refl
none_held (suc n) = none_held n

-- The dirty pages, one frame more
pub count_more : (n : ℕ) (frames : List FrameState) → n < length frames
    → dirty_count (take (suc n) frames)
    ≡ dirty_count (take n frames) + one_if (nth_frame frames n).dirty
count_more n [] lt = absurd (omega arith)
count_more zero (f ∷ frames) lt = omega arith
count_more (suc n) (f ∷ frames) lt = let rest = count_more n frames (omega arith) in omega (arith, rest)

pub one_most : (dirty : Bool) → one_if dirty ≤ 1
one_most true = omega arith
one_most false = omega arith

pub count_most : (n : ℕ) (frames : List FrameState) → dirty_count (take n frames) ≤ n
count_most zero frames = omega arith
count_most (suc n) [] = omega arith
count_most (suc n) (f ∷ frames) =
    let rest = count_most n frames in let one = one_most f.dirty in omega (arith, rest, one)

-- Chains rebuilt, whatever the links were: frames are linked into their chains from the last one
-- down.
use Rattle.std.proofs.Common.{◌≡◌, ℕ, zero, suc, ◌<◌, List, [], ◌∷◌, length, get_or, set, replicate, sym, ap, refl, ◌∙◌, subst, Option, None, arith}
use Rattle.std.proofs.lemmas.List.{length-replicate, get_or-replicate}
use Rattle.warm_stamps.specs.declared.PageId.{PageId}
use Rattle.warm_frame_table.specs.stored.Chains.{IsFirstFrom, AreChains, IsPredecessor, chain_of, chains_of, page_in}
use Rattle.warm_frame_table.proofs.PlaceLemmas.{chain_at, count_chains}

-- the chain of each frame while those before frame n are in none
abbrev pub linked_from : ℕ → ℕ → List ℕ → List ℕ
linked_from zero out frames = frames
linked_from (suc n) out [] = []
linked_from (suc n) out (chain ∷ frames) = out ∷ linked_from n out frames

pub length-linked_from : (n out : ℕ) (frames : List ℕ)
    → length (linked_from n out frames) ≡ length frames
length-linked_from zero out frames = refl
length-linked_from (suc n) out [] = refl
length-linked_from (suc n) out (chain ∷ frames) = ap suc (length-linked_from n out frames)

pub not_yet : (n out : ℕ) (frames : List ℕ) (frame : ℕ) → frame < n → frame < length frames
    → get_or (linked_from n out frames) frame 0 ≡ out
not_yet zero out frames frame below lt = absurd (omega arith)
not_yet (suc n) out [] frame below lt = absurd (omega arith)
not_yet (suc n) out (chain ∷ frames) zero below lt = refl
not_yet (suc n) out (chain ∷ frames) (suc frame) below lt = not_yet n out frames frame (omega arith) (omega arith)

one_more : (n out : ℕ) (frames : List ℕ) → n < length frames
    → set (linked_from (suc n) out frames) n (get_or frames n 0) ≡ linked_from n out frames
one_more n out [] lt = absurd (omega arith)
one_more zero out (chain ∷ frames) lt = refl
one_more (suc n) out (chain ∷ frames) lt = ap (λ rest. out ∷ rest) (one_more n out frames (omega arith))

-- if each head is the number of frames, no chain has a frame, whatever the links are
pub none_yet : (frames heads next : List ℕ) (room : ℕ) → heads ≡ replicate room (length frames)
    → length next ≡ length frames
    → AreChains (linked_from (length frames) (length heads) frames) heads next
none_yet frames heads next room none same =
    let n : ℕ = length frames in
    let out : ℕ = length heads in
    let apart : List ℕ = linked_from n out frames in
    let count : length apart ≡ n = length-linked_from n out frames in
    let wide : out ≡ room = ap length none ∙ length-replicate room n in
    record {
      next_size = same ∙ sym count;
      heads_are = λ chain lt.
          let head : get_or heads chain 0 ≡ n = ap (λ xs. get_or xs chain 0) none ∙ get_or-replicate room chain n 0 (omega arith) in
          subst (λ m. IsFirstFrom apart chain 0 m) (sym head) (record {
            low = omega arith;
            high = omega arith;
            apart = λ frame ge under is. let here : get_or apart frame 0 ≡ out = not_yet n out frames frame under under in omega arith;
            there = λ under. absurd (omega arith);
          });
      next_are = λ frame lt in_chain.
          let under : frame < n = omega arith in
          let here : get_or apart frame 0 ≡ out = not_yet n out frames frame under under in
          absurd (omega arith);
    }

-- a frame comes first in its chain while no frame below it is in one
pub comes_before_all : (frames : List ℕ) (frame out chain : ℕ) → frame < length frames → chain < out
    → IsPredecessor (linked_from (suc frame) out frames) chain frame None
comes_before_all frames frame out chain lt in_heads = record {
  below = omega arith;
  is_of = tt;
  between = λ other ge less is.
      let here : get_or (linked_from (suc frame) out frames) other 0 ≡ out = not_yet (suc frame) out frames other (omega arith) (omega arith) in
      omega arith;
}

-- this frame is in its chain, as those after it are
pub linked_next : (frames : List ℕ) (pages : List (Option PageId)) (heads next : List ℕ)
    (frame out chain : ℕ) → frames ≡ chains_of pages → frame < length pages
    → chain ≡ chain_of (length pages) (page_in pages frame) → length heads ≡ out
    → AreChains (set (linked_from (suc frame) out frames) frame chain) heads next
    → AreChains (linked_from frame (length heads) frames) heads next
linked_next frames pages heads next frame out chain are lt is room chains =
    let there : frame < length frames = subst (λ xs. frame < length xs) (sym are) (subst (λ n. frame < n) (sym (count_chains pages)) lt) in
    let here : chain ≡ get_or frames frame 0 = is ∙ sym (chain_at pages frame lt) ∙ ap (λ xs. get_or xs frame 0) (sym are) in
    let now : set (linked_from (suc frame) out frames) frame chain ≡ linked_from frame (length heads) frames =
    ap (set (linked_from (suc frame) out frames) frame) here ∙ one_more frame out frames there ∙ ap (λ n. linked_from frame n frames) (sym room)
    in
    subst (λ xs. AreChains xs heads next) now chains

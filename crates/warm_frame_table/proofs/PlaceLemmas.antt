-- A page is found along the chain of its chain, and the least free frame at the head of its own.
use Rattle.std.proofs.Common.{◌≡◌, ◌≢◌, ℕ, zero, suc, ◌+◌, ◌<◌, ◌≤◌, List, [], ◌∷◌, length, map, get_or, set, replicate, sym, ap, refl, ◌∙◌, subst, Option, Some, None, inl, inr, arith, add-one, get_or-set_same, get_or-set_other}
use Rattle.std.proofs.lemmas.List.{length-set, length-map, length-replicate, get_or-map, get_or-replicate, get_or_read, map-set, set-set}
use Rattle.std.proofs.lemmas.Bool.{cases_eq, cases_lt}
use Rattle.warm_stamps.specs.declared.PageId.{PageId}
use Rattle.warm_frame_table.specs.Places.{IsFirstFree}
use Rattle.warm_frame_table.specs.stored.Chains.{IsFirstFrom, AreChains, AreInTurn, AreLinked, chain_of, chains_of, hash_of, mix_of, page_in}
use Rattle.warm_frame_table.proofs.ChainLemmas.{link_first}

pub count_chains : (pages : List (Option PageId)) → length (chains_of pages) ≡ length pages
count_chains pages = length-map pages (chain_of (length pages))

pub chain_at : (pages : List (Option PageId)) (frame : ℕ) → frame < length pages
    → get_or (chains_of pages) frame 0 ≡ chain_of (length pages) (page_in pages frame)
chain_at pages frame lt = get_or-map (chain_of (length pages)) pages frame None 0 lt

-- no frame past the last holds a page
pub in_range : (pages : List (Option PageId)) (frame : ℕ) (page : PageId)
    → page_in pages frame ≡ Some page → frame < length pages
in_range [] frame page is = let no : None ≡ Some page = is in absurd (cc)
in_range (held ∷ pages) zero page is = omega arith
in_range (held ∷ pages) (suc frame) page is = let lt = in_range pages frame page is in omega arith

-- a page's hash has 32 bits
pub hash_low : (page : PageId) → hash_of page < 4294967296
unfolding hash_of mix_of
hash_low page = omega arith

-- pages have other chains than frames without one
pub chain_of_page : (n : ℕ) (page : PageId) → 0 < n → chain_of n (Some page) < n
unfolding chain_of
chain_of_page n page some = let low = hash_low page in grind arith

pub chain_of_none : (n : ℕ) → chain_of n None ≡ n
unfolding chain_of
chain_of_none n = refl

free_of_chain : (n : ℕ) (held : Option PageId) → 0 < n → chain_of n held ≡ n → held ≡ None
free_of_chain n None some is = refl
free_of_chain n (Some page) some is = let less = chain_of_page n page some in absurd (omega arith)

-- a frame holds the page only in the page's chain
pub held_in_chain : (pages : List (Option PageId)) (page : PageId) (frame : ℕ)
    → page_in pages frame ≡ Some page
    → get_or (chains_of pages) frame 0 ≡ chain_of (length pages) (Some page)
held_in_chain pages page frame is = chain_at pages frame (in_range pages frame page is) ∙ ap (chain_of (length pages)) is

-- the frames that a chain has passed don't hold the page
abbrev pub ArePassed : List (Option PageId) → PageId → ℕ → Type 0
ArePassed pages page at = (frame : ℕ) → frame < at → page_in pages frame ≡ Some page → ⊥

pub passed_first : (pages : List (Option PageId)) (page : PageId) (at : ℕ)
    → IsFirstFrom (chains_of pages) (chain_of (length pages) (Some page)) 0 at
    → ArePassed pages page at
passed_first pages page at first frame less is = first.apart frame (omega arith) less (held_in_chain pages page frame is)

pub passed_more : (pages : List (Option PageId)) (page : PageId) (at to : ℕ)
    → ArePassed pages page at → (page_in pages at ≡ Some page → ⊥)
    → IsFirstFrom (chains_of pages) (chain_of (length pages) (Some page)) (suc at) to
    → ArePassed pages page to
passed_more pages page at to passed other first frame less is = elim (cases_lt frame at) [
  | inl under ↦ passed frame under is
  | inr over ↦ elim (cases_eq frame at) [
    | inl e ↦ other (ap (page_in pages) (sym e) ∙ is)
    | inr ne ↦ first.apart frame (omega arith) less (held_in_chain pages page frame is)
  ]
]

-- the link of a frame in the page's chain
pub next_in_chain : (pages : List (Option PageId)) (heads next : List ℕ) (page : PageId)
    (from at : ℕ) → AreLinked pages heads next → at < length pages
    → IsFirstFrom (chains_of pages) (chain_of (length pages) (Some page)) from at
    → IsFirstFrom (chains_of pages) (chain_of (length pages) (Some page)) (suc at)
    (get_or next at 0)
next_in_chain pages heads next page from at linked lt first =
    let room : length heads ≡ length pages + 1 = linked.size in
    let b : ℕ = chain_of (length pages) (Some page) in
    let less = chain_of_page (length pages) page (omega arith) in
    let lt_chains : at < length (chains_of pages) = subst (λ n. at < n) (sym (count_chains pages)) lt in
    link_first (chains_of pages) heads next b (Some at) linked.chains (omega arith) (lt_chains, first.there lt_chains)

-- before the first frame of their chain no frame is without a page
pub none_below : (pages : List (Option PageId)) (at : ℕ)
    → IsFirstFrom (chains_of pages) (length pages) 0 at → (frame : ℕ) → frame < at
    → frame < length pages → page_in pages frame ≡ None → ⊥
none_below pages at first frame less lt free = first.apart frame (omega arith) less (chain_at pages frame lt ∙ ap (chain_of (length pages)) free ∙ chain_of_none (length pages))

-- the chain of the frames without a page begins at the least of them
pub first_is_free : (pages : List (Option PageId)) (at : ℕ)
    → IsFirstFrom (chains_of pages) (length pages) 0 at → at < length pages
    → IsFirstFree pages (Some at)
first_is_free pages at first lt =
    let lt_chains : at < length (chains_of pages) = subst (λ n. at < n) (sym (count_chains pages)) lt in
    (lt, free_of_chain (length pages) (page_in pages at) (omega arith) (sym (chain_at pages at lt) ∙ first.there lt_chains), λ lesser less. none_below pages at first lesser less (omega arith))

-- the head of that chain, and as the code reads it
first_free : (pages : List (Option PageId)) (heads next : List ℕ) → AreLinked pages heads next
    → IsFirstFrom (chains_of pages) (length pages) 0 (get_or heads (length pages) 0)
first_free pages heads next linked = linked.chains.heads_are (length pages) (let room : length heads ≡ length pages + 1 = linked.size in omega arith)

head_read : (pages : List (Option PageId)) (heads next : List ℕ) (frames at : ℕ)
    → AreLinked pages heads next → frames ≡ length pages → at ≡ get_or heads frames at
    → IsFirstFrom (chains_of pages) (length pages) 0 at
head_read pages heads next frames at linked count is =
    let room : length heads ≡ length pages + 1 = linked.size in
    let read : at ≡ get_or heads (length pages) 0 = get_or_read heads frames at (omega arith) is 0 ∙ ap (λ m. get_or heads m 0) count in
    subst (λ m. IsFirstFrom (chains_of pages) (length pages) 0 m) (sym read) (first_free pages heads next linked)

-- the first free frame, found there or nowhere
pub free_found : (pages : List (Option PageId)) (heads next : List ℕ) (frames at : ℕ)
    → AreLinked pages heads next → frames ≡ length pages → at ≡ get_or heads frames at → at < frames
    → IsFirstFree pages (Some at)
free_found pages heads next frames at linked count is lt = first_is_free pages at (head_read pages heads next frames at linked count is) (subst (λ m. at < m) count lt)

pub free_full : (pages : List (Option PageId)) (heads next : List ℕ) (frames at : ℕ)
    → AreLinked pages heads next → frames ≡ length pages → at ≡ get_or heads frames at → frames ≤ at
    → IsFirstFree pages None
free_full pages heads next frames at linked count is le frame lt = none_below pages at (head_read pages heads next frames at linked count is) frame (omega arith) lt

-- a frame left its chain and was linked into that of its new content
pub moved_linked : (frames : List ℕ) (pages : List (Option PageId))
    (heads next new_heads new_next : List ℕ) (frame out to : ℕ) (held : Option PageId)
    → frames ≡ chains_of pages → AreLinked pages heads next → frame < length pages
    → length new_heads ≡ length heads → to ≡ chain_of (length pages) held
    → AreChains (set (set frames frame out) frame to) new_heads new_next
    → AreLinked (set pages frame held) new_heads new_next
moved_linked frames pages heads next new_heads new_next frame out to held are linked lt same is chains =
    let now = ap (λ frames. set (set frames frame out) frame to) are ∙ set-set (chains_of pages) frame out to ∙ ap (set (chains_of pages) frame) is in
    let count : length (set pages frame held) ≡ length pages = length-set pages frame held in
    -- a changed frame changes its chain alone
    let alone = ap (λ n. map (chain_of n) (set pages frame held)) count ∙ map-set (chain_of (length pages)) pages frame held in
    record {
      few = subst (λ n. n ≤ 65536) (sym count) linked.few;
      size = same ∙ linked.size ∙ ap (λ n. n + 1) (sym count);
      chains = subst (λ frames. AreChains frames new_heads new_next) (now ∙ sym alone) chains;
    }

-- frames without a page: each is followed by the next
module _ (n : ℕ) (pages : List (Option PageId)) (heads next : List ℕ)
    (no_pages : pages ≡ replicate n None) (no_heads : heads ≡ set (replicate (n + 1) n) n 0)
    (turn : AreInTurn n next) where
  count : length pages ≡ n
  count = ap length no_pages ∙ length-replicate n None

  count_all : length (chains_of pages) ≡ n
  count_all = count_chains pages ∙ count

  in_last : (frame : ℕ) → frame < n → get_or (chains_of pages) frame 0 ≡ n
  in_last frame lt =
      let here : page_in pages frame ≡ None = ap (λ xs. get_or xs frame None) no_pages ∙ get_or-replicate n frame None None lt in
      chain_at pages frame (subst (λ m. frame < m) (sym count) lt) ∙ ap (chain_of (length pages)) here ∙ chain_of_none (length pages) ∙ count

  heads_count : length heads ≡ n + 1
  heads_count = ap length no_heads ∙ length-set (replicate (n + 1) n) n 0 ∙ length-replicate (n + 1) n

  last_head : get_or heads n 0 ≡ 0
  last_head = ap (λ xs. get_or xs n 0) no_heads ∙ get_or-set_same (replicate (n + 1) n) n 0 0 (subst (λ m. n < m) (sym (length-replicate (n + 1) n)) (omega arith))

  other_heads : (b : ℕ) → b < n → get_or heads b 0 ≡ n
  other_heads b lt =
      let ne : b ≢ n = omega arith in
      ap (λ xs. get_or xs b 0) no_heads ∙ get_or-set_other (replicate (n + 1) n) n b 0 0 ne ∙ get_or-replicate (n + 1) b n 0 (omega arith)

  -- the first frame without a page from a place on is the one there
  first_here : (from : ℕ) → from ≤ n → IsFirstFrom (chains_of pages) n from from
  first_here from le = record {
    low = omega arith;
    high = subst (λ m. from ≤ m) (sym count_all) le;
    apart = λ frame ge less. absurd (omega arith);
    there = λ lt. in_last from (subst (λ m. from < m) count_all lt);
  }

  no_others : (b : ℕ) → b ≢ n → IsFirstFrom (chains_of pages) b 0 n
  no_others b ne = record {
    low = omega arith;
    high = subst (λ m. n ≤ m) (sym count_all) (omega arith);
    apart = λ frame ge less is. ne (sym is ∙ in_last frame less);
    there = λ lt. absurd (omega (arith, count_all, lt));
  }

  heads_of_none : (b : ℕ) → b < length heads → IsFirstFrom (chains_of pages) b 0 (get_or heads b 0)
  heads_of_none b low = let low_zero : 0 ≤ n = omega arith in elim (cases_eq b n) [
    | inl e ↦ subst (λ m. IsFirstFrom (chains_of pages) m 0 (get_or heads m 0)) (sym e) (subst (λ m. IsFirstFrom (chains_of pages) n 0 m) (sym last_head) (first_here 0 low_zero))
    | inr ne ↦ let less : b < n = omega (arith, low, ne, heads_count) in subst (λ m. IsFirstFrom (chains_of pages) b 0 m) (sym (other_heads b less)) (no_others b ne)
  ]

  next_of_none : (frame : ℕ) → frame < length (chains_of pages)
      → IsFirstFrom (chains_of pages) (get_or (chains_of pages) frame 0) (suc frame)
      (get_or next frame 0)
  next_of_none frame low =
      let lt : frame < n = subst (λ m. frame < m) count_all low in
      let here : get_or next frame 0 ≡ suc frame = turn.links frame lt ∙ add-one frame in
      subst (λ m. IsFirstFrom (chains_of pages) m (suc frame) (get_or next frame 0)) (sym (in_last frame lt)) (subst (λ m. IsFirstFrom (chains_of pages) n (suc frame) m) (sym here) (first_here (suc frame) (omega arith)))

  pub none_linked : n ≤ 65536 → AreLinked pages heads next
  none_linked few = record {
    few = subst (λ m. m ≤ 65536) (sym count) few;
    size = heads_count ∙ ap (λ m. m + 1) (sym count);
    chains = record { next_size = turn.count ∙ sym count_all; heads_are = heads_of_none; next_are = λ frame low in_chain. next_of_none frame low };
  }

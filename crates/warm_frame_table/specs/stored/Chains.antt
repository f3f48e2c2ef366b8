-- Hash chains of frames: each frame links to the next one of its chain, in rising order. A link
-- equal to the number of frames ends a chain.
use Rattle.std.specs.Prelude.{◌≡◌, ◌≢◌, ℕ, suc, ◌+◌, ◌*◌, ◌/◌, ◌%◌, ◌<◌, ◌≤◌, List, length, map}
use Rattle.std.specs.Prelude.{set, Option, Some, None, slice_index, slice_index_or}
use Rattle.warm_stamps.specs.declared.PageId.{PageId}
use Rattle.warm_rank.specs.declared.TheConstants.{MAX_FRAMES}

-- the page in a frame, if any
abbrev pub page_in : List (Option PageId) → ℕ → Option PageId
page_in pages frame = slice_index_or pages frame None

-- The hash of a page

-- Mixes 32 bits: the upper half is added to the lower one, then an odd factor carries each bit up,
-- the first one of the finalizer of MurmurHash3 for 32 bits (Appleby).
unfoldable pub mix_of : ℕ → ℕ
mix_of x = ((x + x / 0x10000) % 0x100000000 * 0x85EBCA6B) % 0x100000000

-- The page's number and that of its device hashed to 32 bits. The factors are 2^32 divided by the
-- golden ratio (Knuth), the least prime above 10^9, and the second prime of xxHash (Collet).
unfoldable pub hash_of : PageId → ℕ
hash_of page =
    mix_of (mix_of ((page.no % 0x100000000 * 0x9E3779B9 + page.no / 0x100000000 * 0x3B9ACA07
    + page.dev * 0x85EBCA77) % 0x100000000))

-- Chains

-- the chain of a frame with this content, of n + 1 chains: pages are spread over the first n by
-- their hash, and the frames without a page are in the last
unfoldable pub chain_of : ℕ → Option PageId → ℕ
chain_of n None = n
chain_of n (Some page) = hash_of page * n / 0x100000000

-- the chain of each frame
abbrev pub chains_of : List (Option PageId) → List ℕ
chains_of pages = map (chain_of (length pages)) pages

-- the first frame of a chain from a frame on, or the number of frames if there is none
pub record IsFirstFrom (frames : List ℕ) (chain from at : ℕ) : Type 0 where
  pub low : from ≤ at
  pub high : at ≤ length frames
  pub apart : (frame : ℕ) → from ≤ frame → frame < at → slice_index frames frame ≢ chain
  pub there : at < length frames → slice_index frames at ≡ chain

-- each chain begins at its first frame, and each frame links to the next one of its chain. A frame
-- whose chain number is out of range is in no chain
pub record AreChains (frames heads next : List ℕ) : Type 0 where
  pub next_size : length next ≡ length frames
  pub heads_are : (chain : ℕ) → chain < length heads
      → IsFirstFrom frames chain 0 (slice_index heads chain)
  pub next_are : (frame : ℕ) → frame < length frames → slice_index frames frame < length heads
      → IsFirstFrom frames (slice_index frames frame) (suc frame) (slice_index next frame)

-- the number of the frame after the given one, or 0 if none is given
abbrev pub after : Option ℕ → ℕ
after None = 0
after (Some frame) = suc frame

-- the frame, if there is one, is in the chain
abbrev pub IsOf : List ℕ → ℕ → Option ℕ → Type 0
IsOf frames chain None = Unit {0}
IsOf frames chain (Some frame) = (frame < length frames) × (slice_index frames frame ≡ chain)

-- the last frame of a chain before a frame; none if there is none
pub record IsPredecessor (frames : List ℕ) (chain frame : ℕ) (last : Option ℕ) : Type 0 where
  pub below : after last ≤ frame
  pub is_of : IsOf frames chain last
  pub between : (other : ℕ) → after last ≤ other → other < frame → slice_index frames other ≢ chain

-- the link of a frame of a chain, or the head of the chain
abbrev pub link_after : List ℕ → List ℕ → ℕ → Option ℕ → ℕ
link_after heads next chain None = slice_index heads chain
link_after heads next chain (Some frame) = slice_index next frame

-- the heads, after the link behind `last` was set to a frame: it is the chain's head if `last` is
-- none
abbrev pub heads_with_link : List ℕ → ℕ → Option ℕ → ℕ → List ℕ
heads_with_link heads chain None to = set heads chain to
heads_with_link heads chain (Some frame) to = heads

-- the frames' links, after the link behind `last` was set to a frame: they are unchanged if `last`
-- is none
abbrev pub next_with_link : List ℕ → Option ℕ → ℕ → List ℕ
next_with_link next None to = next
next_with_link next (Some frame) to = set next frame to

-- the frames' chains after one frame is removed from its chain
abbrev pub chains_without : List ℕ → ℕ → List ℕ → List ℕ
chains_without frames frame heads = set frames frame (length heads)

-- the pages of frames and the chains over them
pub record AreLinked (pages : List (Option PageId)) (heads next : List ℕ) : Type 0 where
  pub few : length pages ≤ MAX_FRAMES
  pub size : length heads ≡ length pages + 1
  pub chains : AreChains (chains_of pages) heads next

-- links from each frame to the next
pub record AreInTurn (frames : ℕ) (next : List ℕ) : Type 0 where
  pub count : length next ≡ frames
  pub links : (frame : ℕ) → frame < frames → slice_index next frame ≡ frame + 1

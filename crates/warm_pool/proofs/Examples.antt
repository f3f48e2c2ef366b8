-- Worked examples, computed: what a caller sees of small pools, and the frame into which a page is
-- loaded.
use Rattle.std.proofs.Common.{◌≡◌, ◌≢◌, ◌<◌, ℕ, zero, suc, Bool, true, false, List, [], ◌∷◌, refl, sym, Some, None, inl, inr, arith}
use Rattle.std.specs.List.{Contains}
use Rattle.warm_stamps.specs.declared.PageId.{PageId}
use Rattle.warm_history.specs.Histories.{history_of_entries as alone, references_of}
use Rattle.warm_rank.specs.Ranking.{IsBefore}
use Rattle.warm_devices.specs.Calls.{no_calls}
use Rattle.warm_devices.specs.Device.{DeviceState}
use Rattle.warm_frame_table.specs.Frames.{FrameState, fresh_frame}
use Rattle.warm_frame_table.specs.FrameSteps.{cleaned, patched}
use Rattle.warm_pool.specs.State.{PoolState}
use Rattle.warm_pool.specs.View.{view_of, PoolView, contents_at, frame_at, unfixed_pages}
use Rattle.warm_pool.specs.WritingBack.{cleaned_to}
use Rattle.warm_pool.specs.WritingSome.{IsNextDirty, NoneDirty}
use Rattle.warm_pool.specs.Pinning.{HasNoFreeFrame, IsFrameToLoad, unpinned}
use Rattle.warm_pool.specs.Retiring.{emptied}

-- the page 0:n
abbrev page : ℕ → PageId
page n = record { dev = 0; no = n }

-- a device of three pages of two bytes
abbrev device : Bool → DeviceState
device honest = record {
  pages = 3;
  page_size = 2;
  contents = (1 ∷ 1 ∷ []) ∷ (2 ∷ 2 ∷ []) ∷ (3 ∷ 3 ∷ []) ∷ [];
  waiting = false;
  failures = 0;
  calls = no_calls;
  honest = honest;
  unfailing = true;
}

-- a frame into which one page was loaded, the page 0:n, which is dirty and has this pin count
abbrev history_of_entries : ℕ → ℕ → List ℕ → FrameState
history_of_entries n fixes bytes = record { page = Some (page n); key = None; generation = 1; fixes = fixes; dirty = true; bytes = bytes }

-- a pool of two frames over such a device
abbrev two_frames : Bool → FrameState → FrameState → PoolState
two_frames honest first second = record { page_size = 2; spare = 2; frames = first ∷ second ∷ []; devices = device honest ∷ [] }

-- 0:1 is pinned, and was filled with 7 and 8; 0:2 is not pinned, and was filled with 9
abbrev seen : Bool → PoolView
seen honest = view_of (two_frames honest (history_of_entries 1 1 (7 ∷ 8 ∷ [])) (history_of_entries 2 0 (9 ∷ 9 ∷ [])))

-- ---- contents

-- a resident page has the bytes of its frame, another those of its device
resident_bytes : contents_at (seen true) (page 1) ≡ 7 ∷ 8 ∷ []
resident_bytes = refl

absent_bytes : contents_at (seen true) (page 0) ≡ 1 ∷ 1 ∷ []
absent_bytes = refl

-- of a device that isn't honest only resident pages have bytes
resident_bytes_unknown_device : contents_at (seen false) (page 2) ≡ 9 ∷ 9 ∷ []
resident_bytes_unknown_device = refl

absent_bytes_unknown_device : contents_at (seen false) (page 0) ≡ []
absent_bytes_unknown_device = refl

-- a page that no device has
no_page : contents_at (seen true) (page 3) ≡ []
no_page = refl

-- one byte of a page of four, written at 2
one_byte : patched (0 ∷ 0 ∷ 0 ∷ 0 ∷ []) 2 (5 ∷ []) ≡ 0 ∷ 0 ∷ 5 ∷ 0 ∷ []
one_byte = refl

-- ---- pins and frames

-- a pinned page is no candidate, until it is unpinned
fixed_stays : unfixed_pages (seen true) ≡ page 2 ∷ []
fixed_stays = refl

unpinned_may_leave : unfixed_pages (unpinned (seen true) (record { index = 0; generation = 1 }))
    ≡ page 1 ∷ page 2 ∷ []
unpinned_may_leave = refl

-- a frame keeps its generation when its page leaves
generation_stays : (emptied (frame_at (seen true) 1)).generation ≡ 1
generation_stays = refl

-- if the second of two writes fails, the first frame is clean and the second is not
first_is_clean : cleaned_to 1 (history_of_entries 1 0 [] ∷ history_of_entries 2 0 [] ∷ [])
    ≡ (let f : FrameState = record (history_of_entries 1 0 []) { dirty = false } in f)
    ∷ history_of_entries 2 0 [] ∷ []
first_is_clean = refl

-- ---- the next dirty page

-- of a clean frame and a dirty one the second is next, and none is after it
clean_is_passed : IsNextDirty
    (two_frames true (cleaned (history_of_entries 1 0 [])) (history_of_entries 2 0 [])) 0
    (Some (record { frame = 1; page = page 2 }))
clean_is_passed = (omega arith, passed, record { there = omega arith; holds = refl; dirty = refl })
  where
    passed : NoneDirty (cleaned (history_of_entries 1 0 []) ∷ history_of_entries 2 0 [] ∷ []) 0 1
    passed zero low high = refl
    passed (suc i) low high = absurd (omega arith)

none_after : IsNextDirty (two_frames true (history_of_entries 1 0 []) (history_of_entries 2 0 [])) 2
    None
none_after i low high = absurd (omega arith)

-- ---- the frame into which a page is loaded

-- into the first frame without a page, even if another page could leave
first_free_place : IsFrameToLoad (alone [])
    (view_of (two_frames true (history_of_entries 1 0 []) (fresh_frame []))) (Some 1)
first_free_place = inl (record { there = omega arith; free = refl; least = first_is_held })
  where
    first_is_held : (j : ℕ) → j < 1
        → (frame_at (view_of (two_frames true (history_of_entries 1 0 []) (fresh_frame []))) j).page
        ≢ None
    first_is_held zero lt is = let no : Some (page 1) ≡ None = is in absurd (cc)
    first_is_held (suc j) lt is = absurd (omega arith)

-- both frames have a page
both_held : (honest : Bool) (m n : ℕ) (a b : List ℕ)
    → HasNoFreeFrame (view_of
    (two_frames honest (history_of_entries 1 m a) (history_of_entries 2 n b)))
both_held honest m n a b zero lt is = let no : Some (page 1) ≡ None = is in absurd (cc)
both_held honest m n a b (suc zero) lt is = let no : Some (page 2) ≡ None = is in absurd (cc)
both_held honest m n a b (suc (suc i)) lt is = absurd (omega arith)

-- into none if both pages are pinned
no_place : IsFrameToLoad (alone [])
    (view_of (two_frames true (history_of_entries 1 1 []) (history_of_entries 2 3 []))) None
no_place = (both_held true 1 3 [] [], refl)

-- else into the frame of the victim, here the only unpinned page
victims_place : IsFrameToLoad (alone []) (seen true) (Some 1)
victims_place = inr (record {
  there = omega arith;
  full = both_held true 1 0 (7 ∷ 8 ∷ []) (9 ∷ 9 ∷ []);
  page = page 2;
  holds = refl;
  unfixed = refl;
  victim = ((0, omega arith, refl), others);
})
  where
    others : (q : PageId) → Contains (page 2 ∷ []) q → q ≢ page 2
        → IsBefore (references_of (alone [])) (page 2) q
    others q (zero, lt, is) differ = absurd (differ (sym is))
    others q (suc k, lt, is) differ = absurd (omega arith)

-- The frame of a page, and the first frame without one.
use Rattle.std.specs.Prelude.{◌≡◌, ◌≢◌, ℕ, ◌<◌, List, length, Option, Some, None, slice_index_or}
use Rattle.warm_stamps.specs.declared.PageId.{PageId}

-- the page is in this frame, or in none
abbrev pub IsPlaceOf : List (Option PageId) → PageId → Option ℕ → Type 0
IsPlaceOf pages p (Some i) = (i < length pages) × (slice_index_or pages i None ≡ Some p)
IsPlaceOf pages p None = (i : ℕ) → i < length pages → slice_index_or pages i None ≢ Some p

-- this is the first frame without a page, or there is none
abbrev pub IsFirstFree : List (Option PageId) → Option ℕ → Type 0
IsFirstFree pages (Some i) = (i < length pages) × (slice_index_or pages i None ≡ None)
    × ((j : ℕ) → j < i → slice_index_or pages j None ≢ None)
IsFirstFree pages None = (i : ℕ) → i < length pages → slice_index_or pages i None ≢ None

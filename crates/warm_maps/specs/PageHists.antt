-- The history of a page: its two latest stamps, and what a horizon leaves of them.
use Rattle.std.specs.Prelude.{◌≡◌, List, [], ◌∷◌, Option, Some, None, ℕ, Bool, nat_le, cond}
use Rattle.std.specs.Ordering.{flip_args}
use Rattle.std.specs.declared.cmp.Ordering.TheVariants.{Less}
use Rattle.warm_stamps.specs.declared.Stamp.{Stamp}
use Rattle.warm_stamps.specs.Stamps.{stamp_cmp}
use Rattle.warm_stamps.specs.Distinct.{distinct}
use Rattle.warm_maps.specs.declared.hist.PageHist.{PageHist}
use Rattle.warm_maps.specs.declared.hist.PageHist.TheVariants.{Once, Twice}

-- the first two of falling stamps, or the only one
abbrev pub first_two : List Stamp → Option PageHist
first_two [] = None
first_two (last ∷ []) = Some (Once last)
first_two (last ∷ prev ∷ older) = Some (Twice (record { last = last; prev = prev }))

-- the two latest of a list of stamps
abbrev pub latest_of : List Stamp → Option PageHist
latest_of ss = first_two (distinct (flip_args stamp_cmp) ss)

-- the stamps that a page's history holds, the later one first
abbrev pub hist_stamps : PageHist → List Stamp
hist_stamps (Once last) = last ∷ []
hist_stamps (Twice two) = two.last ∷ two.prev ∷ []

-- the stamps held of a page, none if it has no history
abbrev pub known_stamps : Option PageHist → List Stamp
known_stamps None = []
known_stamps (Some h) = hist_stamps h

-- the stamps of a page's history fall
abbrev pub IsDescending : PageHist → Type 0
IsDescending (Once last) = Unit {0}
IsDescending (Twice two) = stamp_cmp two.prev two.last ≡ Less

-- the stamp isn't older than the horizon
abbrev pub is_kept : ℕ → Stamp → Bool
is_kept horizon s = nat_le horizon s.time

-- the latest stamp isn't older than the horizon
abbrev pub is_recent : ℕ → PageHist → Bool
is_recent horizon (Once last) = is_kept horizon last
is_recent horizon (Twice two) = is_kept horizon two.last

-- a page's stamps without the second latest, if that is older than the horizon
abbrev pub shortened : ℕ → PageHist → PageHist
shortened horizon (Once last) = Once last
shortened horizon (Twice two) = cond (is_kept horizon two.prev) (Twice two) (Once two.last)

-- the stamps of a page's history that are kept, if any
abbrev pub kept_hist : ℕ → PageHist → Option PageHist
kept_hist horizon h = cond (is_recent horizon h) (Some (shortened horizon h)) None

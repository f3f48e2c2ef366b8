-- Pairs after cutting at a horizon.
use Rattle.std.specs.Prelude.{ℕ, List, Option}
use Rattle.std.specs.List.{filter_map}
use Rattle.std.specs.Option.{option_map}
use Rattle.warm_maps.specs.declared.hist.PageHist.{PageHist}
use Rattle.warm_maps.specs.PageHists.{kept_hist}

-- the rest of a pair after the cut, if any
abbrev pub cut_pair : {K : Type 0} → ℕ → K × PageHist → Option (K × PageHist)
cut_pair horizon e = option_map (λ h. (e.0, h)) (kept_hist horizon e.1)

-- the pairs after the cut
abbrev pub cut_at : {K : Type 0} → ℕ → List (K × PageHist) → List (K × PageHist)
cut_at horizon pairs = filter_map (cut_pair horizon) pairs

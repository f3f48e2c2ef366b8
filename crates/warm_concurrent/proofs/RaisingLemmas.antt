-- Shards that were raised, and the horizons that they then had.
use Rattle.std.proofs.Common.{◌≡◌, ℕ, max, List, [], ◌∷◌, ◌++◌, get_or, ap, ◌∙◌, arith}
use Rattle.warm_concurrent.specs.Attached.{ShardPass}
use Rattle.warm_concurrent.specs.Raising.{RaisesFirstTo, latest_in}
use Rattle.warm_concurrent.specs.Whole.{RaisesFirst}

both_sides : (a b c : ℕ) → max a (max b c) ≡ max (max a b) c
both_sides a b c = omega arith

-- one time more
pub latest_more : (ts : List ℕ) (t : ℕ) → latest_in (ts ++ t ∷ []) ≡ max (latest_in ts) t
latest_more [] t = omega arith
latest_more (x ∷ ts) t = ap (λ (n : ℕ). max x n) (latest_more ts t) ∙ both_sides x (latest_in ts) t

-- shards that were raised, and then had these horizons, were raised
pub raised_first : (time k : ℕ) (horizons : List ℕ) (old new : List ShardPass)
    → RaisesFirstTo time horizons k old new → RaisesFirst time k old new
raised_first time k horizons old new so = record {
  count = so.1.count;
  first = λ i lt. (get_or horizons i 0, so.1.first i lt);
  others = so.1.others;
}

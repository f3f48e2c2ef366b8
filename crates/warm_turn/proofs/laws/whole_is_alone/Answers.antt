use Rattle.std.proofs.Common.{◌≡◌, ◌≢◌}
use mathlib.Core.Logic.{dite}
use native.Mathlib.Decide.{ℕ_discrete}
use Rattle.warm_turn.proofs.WeightLemmas.{only_one}
use Rattle.warm_turn.proofs.laws.whole_is_alone.Goals as goal

pub returns : goal.returns
returns g c o s r i j v u at whole there owns = dite (ℕ_discrete j i) (λ (e : j ≡ i). e) (λ (n : j ≢ i). absurd (only_one s.views r.shares i j v u at whole there owns n))

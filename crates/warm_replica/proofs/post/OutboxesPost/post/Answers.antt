use Rattle.std.proofs.Common.{◌≡◌, ◌≢◌, ℕ, ◌==◌, List, [], ◌∷◌, Some, position, arith}
use Rattle.std.proofs.lemmas.Bool.{eqb-true}
use Rattle.std.proofs.lemmas.Grind.{common_steps}
use Rattle.std.proofs.lemmas.List.Quantifiers.{position-Some}
use Rattle.std.specs.List.{All}
use Rattle.warm_replica.proofs.post.OutboxesPost.post.Goals as goal

-- if no outbox has the number, none is its first
none_first : {A : Type 0} (number : A → ℕ) (to : ℕ) (xs : List A) (at : ℕ)
    → position (λ x. number x == to) xs ≡ Some at → All (λ x. number x ≢ to) xs → ⊥
none_first number to [] at first none = grind (arith, common_steps, first)
none_first number to (x ∷ xs) at first none =
    let p = position-Some (λ y. number y == to) (x ∷ xs) at x first in
    none at x p.0 (eqb-true _ _ p.1)

pub returns-in-Some-clause-nobody : goal.returns-in-Some-clause-nobody
returns-in-Some-clause-nobody g c = λ none. absurd (none_first (λ o. o.replica) c.args.to c.args.self.now.boxes.items c.in-Some.at (grind (arith, common_steps, c.as_slice.ensures.value, c.place_of.ensures, c.in-Some.is)) none)

-- What is of one shard among items that name pages.
use Rattle.std.proofs.Common.{◌≡◌, ◌≢◌, ℕ, Bool, true, false, List, [], ◌∷◌, refl, sym, ap, ◌∙◌}
use Rattle.std.specs.Prelude.{nat_eq}
use Rattle.std.specs.List.{AllByRecursion}
use Rattle.std.proofs.lemmas.Bool.{eq-eqb, eqb-true, ne_eqb}
use Rattle.warm_stamps.specs.declared.PageId.{PageId}
use Rattle.warm_visits.specs.Parts.{own_items}
use Rattle.warm_visits.specs.ShardNumbers.{shard_of}

module _ {A : Type 0} (page : A → PageId) where
  -- a part has pages of its shard alone
  pub part_is_own : (count i : ℕ) (xs : List A)
      → AllByRecursion (λ x. shard_of count (page x) ≡ i) (own_items page count i xs)
  part_is_own count i [] = tt
  part_is_own count i (x ∷ xs) = cases (nat_eq (shard_of count (page x)) i) refl (part_is_own count i xs)
    where
      cases : (b : Bool) → nat_eq (shard_of count (page x)) i ≡ b
          → AllByRecursion (λ y. shard_of count (page y) ≡ i) (own_items page count i xs)
          → AllByRecursion (λ y. shard_of count (page y) ≡ i) (own_items page count i (x ∷ xs))
      cases true is rest = rw is (eqb-true (shard_of count (page x)) i is, rest)
      cases false is rest = rw is rest

  -- items whose pages are all of one shard: it has all, and the others have none
  pub only_part : (count i : ℕ) (xs : List A) → AllByRecursion (λ x. shard_of count (page x) ≡ i) xs
      → own_items page count i xs ≡ xs
  only_part count i [] all = refl
  only_part count i (x ∷ xs) all =
      rw (eq-eqb (shard_of count (page x)) i all.0) (ap (λ ys. x ∷ ys) (only_part count i xs all.1))

  pub other_part : (count i k : ℕ) (xs : List A) → k ≢ i
      → AllByRecursion (λ x. shard_of count (page x) ≡ i) xs → own_items page count k xs ≡ []
  other_part count i k [] other all = refl
  other_part count i k (x ∷ xs) other all =
      rw (ne_eqb (shard_of count (page x)) k (λ e. other (sym e ∙ all.0))) (other_part count i k xs other all.1)

-- The references of the first shards, shard by shard.
use Rattle.std.proofs.Common.{◌≡◌, ◌⊎◌, inl, inr, ℕ, ◌+◌, ◌<◌, Bool, true, false, List, [], ◌∷◌, filter, max, refl, sym, ap, ◌∙◌, arith}
use Rattle.std.specs.Prelude.{nat_eq, nat_lt}
use Rattle.std.proofs.lemmas.Bool.{eq-eqb, eqb-true, le-ltb, lt-ltb, ltb-false, ltb-true}
use Rattle.warm_stamps.specs.declared.Reference.{Reference}
use Rattle.warm_history.specs.ReferenceSets.{ReferenceSet, is_kept, references, ◌∪◌}
use Rattle.warm_history.specs.References.{IsIn, SameReferences}
use Rattle.warm_history.specs.Histories.{history}
use Rattle.warm_history.proofs.JoinLemmas.{both_assoc, history_alike}
use Rattle.warm_history.proofs.SetLemmas.{hist_of_set}
use Rattle.warm_visits.specs.ShardNumbers.{of_first_shards, of_shard, shard_of}
use Rattle.warm_visits.proofs.Lists.{from_filter, in_both, in_filter, in_first, in_second}

max_same : (n : ℕ) → max n n ≡ n
max_same n = omega arith

-- in a set of references: given, and kept
in_set : (r : Reference) (S : ReferenceSet) → IsIn r S.given → is_kept S.horizon r.stamp ≡ true
    → IsIn r (references S)
in_set r S here kept = in_filter (λ r. is_kept S.horizon r.stamp) r S.given here kept

from_set : (r : Reference) (S : ReferenceSet) → IsIn r (references S)
    → IsIn r S.given × (is_kept S.horizon r.stamp ≡ true)
from_set r S here = from_filter (λ r. is_kept S.horizon r.stamp) r S.given here

first_and_next : (count k : ℕ) (S : ReferenceSet)
    → SameReferences (of_first_shards count k S ∪ of_shard count k S) (of_first_shards count (k + 1) S)
first_and_next count k S =
    let first : Reference → Bool = λ r. nat_lt (shard_of count r.page) k in
    let own : Reference → Bool = λ r. nat_eq (shard_of count r.page) k in
    let both : Reference → Bool = λ r. nat_lt (shard_of count r.page) (k + 1) in
    let A = filter first S.given in
    let B = filter own S.given in
    record {
      there = λ r here.
          let from = from_set r (of_first_shards count k S ∪ of_shard count k S) here in
          let kept : is_kept S.horizon r.stamp ≡ true = ap (λ m. is_kept m r.stamp) (sym (max_same S.horizon)) ∙ from.1 in
          elim (in_both r A B from.0) [
            | inl low ↦
                let had = from_filter first r S.given low in
                let less : shard_of count r.page < k = ltb-true (shard_of count r.page) k had.1 in
                in_set r (of_first_shards count (k + 1) S) (in_filter both r S.given had.0 (lt-ltb (shard_of count r.page) (k + 1) (omega arith))) kept
            | inr same ↦
                let had = from_filter own r S.given same in
                let equal : shard_of count r.page ≡ k = eqb-true (shard_of count r.page) k had.1 in
                in_set r (of_first_shards count (k + 1) S) (in_filter both r S.given had.0 (lt-ltb (shard_of count r.page) (k + 1) (omega arith))) kept
          ];
      back = λ r here.
          let from = from_set r (of_first_shards count (k + 1) S) here in
          let kept : is_kept (max S.horizon S.horizon) r.stamp ≡ true = ap (λ m. is_kept m r.stamp) (max_same S.horizon) ∙ from.1 in
          let had = from_filter both r S.given from.0 in
          let less : shard_of count r.page < k + 1 = ltb-true (shard_of count r.page) (k + 1) had.1 in
          in_set r (of_first_shards count k S ∪ of_shard count k S) (elim (below (shard_of count r.page) k less) [
            | inl low ↦ in_first r A B (in_filter first r S.given had.0 (lt-ltb (shard_of count r.page) k low))
            | inr same ↦ in_second r A B (in_filter own r S.given had.0 (eq-eqb (shard_of count r.page) k same))
          ]) kept;
    }
  where
    below : (s k : ℕ) → s < k + 1 → (s < k) ⊎ (s ≡ k)
    below s k less = cases (nat_lt s k) refl
      where
        cases : (b : Bool) → nat_lt s k ≡ b → (s < k) ⊎ (s ≡ k)
        cases true is = inl (ltb-true s k is)
        cases false is = inr (omega (arith, ltb-false s k is))

-- after the first k shards the next takes its part in
pub next_part : (count k : ℕ) (R S : ReferenceSet)
    → history ((R ∪ of_first_shards count k S) ∪ of_shard count k S)
    ≡ history (R ∪ of_first_shards count (k + 1) S)
next_part count k R S =
    let A = of_first_shards count k S in
    let B = of_shard count k S in
    let C = of_first_shards count (k + 1) S in
    ap history (both_assoc R A B)
    ∙ history_alike R R (A ∪ B) C refl (max_same S.horizon) (λ p. refl) (hist_of_set (A ∪ B) C (first_and_next count k S))

-- all shards take all in
pub all_parts : (count : ℕ) (R S : ReferenceSet) → ((r : Reference) → shard_of count r.page < count)
    → history (R ∪ of_first_shards count count S) ≡ history (R ∪ S)
all_parts count R S below =
    history_alike R R (of_first_shards count count S) S refl refl (λ p. refl) (hist_of_set (of_first_shards count count S) S (record {
      there = λ r here. let from = from_set r (of_first_shards count count S) here in in_set r S (from_filter (λ r. nat_lt (shard_of count r.page) count) r S.given from.0).0 from.1;
      back = λ r here. let from = from_set r S here in in_set r (of_first_shards count count S) (in_filter (λ r. nat_lt (shard_of count r.page) count) r S.given from.0 (lt-ltb (shard_of count r.page) count (below r))) from.1;
    }))

-- no shard takes nothing but the horizon in
pub no_part : (count : ℕ) (S : List Reference)
    → filter (λ r. nat_lt (shard_of count r.page) 0) S ≡ []
no_part count [] = refl
no_part count (r ∷ rs) = rw (le-ltb (shard_of count r.page) 0 (omega arith)) (no_part count rs)

-- Lists of which a set is made: it has as many items as the list exactly if no two are equal.
use Rattle.std.proofs.Common.{◌≡◌, ℕ, ℤ, List, length, sym, subst, ap, ◌∙◌, true, eqb, Decides, BTreeSet, btree_set_len, Ordering, Equal, is_eq, nat_cmp, int_cmp}
use Rattle.std.proofs.lemmas.Bool.{eqb-true, eq-eqb}
use Rattle.std.proofs.lemmas.Cmp.{eq_by_cmp_equiv, int_cmp_total, int_ranked, nat_cmp_total, ranked, tied_itself}
use Rattle.std.proofs.lemmas.Map.Made.{AllPairs-from_IsDistinct, IsDistinct-from_AllPairs, IsDistinct-from_count, distinct_count-from_IsDistinct}
use Rattle.std.proofs.lemmas.Map.Views.{btree_set_len-from_list}
use Rattle.std.specs.BTreeSet.{IsFromIterResult}
use Rattle.std.specs.Cmp.{Equal-is, IsTotalOrder}
use Rattle.std.specs.Ordering.{eq_by_cmp}
use Rattle.warm_c_base.specs.DeviceLists.{AllDiffer}

-- a set has as many items as the list that it is made of exactly if no two are equal
module _ {K : Type 0} {R : K → K → Ordering} (order : IsTotalOrder R)
    (same : (x y : K) → Decides (eq_by_cmp R x y) (x ≡ y)) where
  pub set_decides : (xs : List K) (made : BTreeSet K) → IsFromIterResult R xs made
      → Decides (eqb (btree_set_len made) (length xs)) (AllDiffer xs)
  set_decides xs made from =
      let laws = eq_by_cmp_equiv order in
      let count = btree_set_len-from_list order xs made from in (
        λ e. AllPairs-from_IsDistinct same xs (IsDistinct-from_count laws xs (sym count ∙ eqb-true _ _ e)),
        λ differ. eq-eqb _ _ (count ∙ distinct_count-from_IsDistinct laws xs (IsDistinct-from_AllPairs same xs differ)),
      )

same_number : (x y : ℕ) → Decides (eq_by_cmp nat_cmp x y) (x ≡ y)
same_number x y = (
  λ e. ranked x y Equal (sym ((Equal-is (nat_cmp x y)).0 e)),
  λ e. subst (λ z. is_eq (nat_cmp x z) ≡ true) e (ap is_eq (tied_itself nat_cmp_total x)),
)

same_integer : (x y : ℤ) → Decides (eq_by_cmp int_cmp x y) (x ≡ y)
same_integer x y = (
  λ e. int_ranked x y Equal (sym ((Equal-is (int_cmp x y)).0 e)),
  λ e. subst (λ z. is_eq (int_cmp x z) ≡ true) e (ap is_eq (tied_itself int_cmp_total x)),
)

pub numbers_decide : (xs : List ℕ) (made : BTreeSet ℕ) → IsFromIterResult nat_cmp xs made
    → Decides (eqb (btree_set_len made) (length xs)) (AllDiffer xs)
numbers_decide = set_decides nat_cmp_total same_number

pub integers_decide : (xs : List ℤ) (made : BTreeSet ℤ) → IsFromIterResult int_cmp xs made
    → Decides (eqb (btree_set_len made) (length xs)) (AllDiffer xs)
integers_decide = set_decides int_cmp_total same_integer
